-- Blocks that are read one after the other, and put into a reading.
use Rattle.std.proofs.Common.{◌≡◌, ◌⊎◌, inl, inr, ℕ, suc, ◌+◌, ◌*◌, ◌<◌, ◌-◌, ◌≤◌, ◌^◌, ◌||◌, Bool, true, false, cond, List, [], ◌∷◌, ◌++◌, length, take, get_or, slice_get, Option, Some, None, Ok, refl, sym, ap, subst, ◌∙◌, arith, length-append, length-take, take_all, take-suc}
use Rattle.std.proofs.lemmas.List.Sums.{fold-append}
use Rattle.std.proofs.lemmas.Nat.{mul-le}
use Rattle.tape_types.specs.Counts.{Rose}
use Rattle.tape_types.specs.declared.cartridges.Cartridge.{Cartridge}
use Rattle.tape_types.specs.declared.cartridges.Item.{Item}
use Rattle.tape_types.specs.declared.cartridges.Item.TheVariants.{Block, Mark, Torn}
use Rattle.tape_types.specs.declared.cartridges.Place.{Place}
use Rattle.tape_types.proofs.Places.{same_back}
use Rattle.tape_drive.specs.Commands.{IsRead, item_at}
use Rattle.tape_drive.specs.Looks.{Looks}
use Rattle.tape_drive.specs.declared.drive.Drive.{Ghosts}
use Rattle.tape_drive.specs.declared.drive.Got.{Got}
use Rattle.tape_drive.proofs.Looking.{more_looks, no_looks, then_looks}
use Rattle.extent_map.specs.Cells.{byte_in, tape_of}
use Rattle.extent_map.specs.Replies.{IsBlock, Places, has_place, places_in, same_place, with_place}
use Rattle.extent_map.specs.declared.pieces.Piece.{Piece}
use Rattle.plain_tree.specs.declared.calls.Answer.{Answer}
use Rattle.waiting_reads.specs.Gathering.{Gathering, IsAnswered, IsGathering, read_answer}
use Rattle.waiting_reads.specs.Waiting.{IsFilledBy}
use Rattle.generation_view.specs.Reads.{AreFetched, HasBlocks, IsReadBy, with_places}

-- ---- one block

byte_of : (x : Option Item) (answer : Got) (buffer : List ℕ) (byte : ℕ) → IsRead x answer buffer → byte_in x byte ≡ slice_get buffer byte
byte_of None answer buffer byte read = sym (ap (λ (bs : List ℕ). slice_get bs byte) read.1)
byte_of (Some (Block bytes)) answer buffer byte read = sym (ap (λ (bs : List ℕ). slice_get bs byte) read.1)
byte_of (Some Mark) answer buffer byte read = sym (ap (λ (bs : List ℕ). slice_get bs byte) read.1)
byte_of (Some Torn) answer buffer byte read = sym (ap (λ (bs : List ℕ). slice_get bs byte) read.1)

-- what was read at a place is the block there
pub block_read : (c : Cartridge) (place : Place) (answer : Got) (buffer : List ℕ) → IsRead (item_at place c) answer buffer → IsBlock (tape_of c) place buffer
block_read c place answer buffer read byte = byte_of (item_at place c) answer buffer byte read

next_place : (places : List Place) (i : ℕ) (d : Place) → i < length places → take (i + 1) places ≡ take i places ++ get_or places i d ∷ []
next_place places i d lt =
    let on : i + 1 ≡ suc i = omega arith in
    ap (λ n. take n places) on ∙ take-suc places i d lt

module _ {D : Type 0} (drive : Ghosts D) where
  -- one block that is read as it stands is put into the reading
  pub fetched_one : (place : Place) (a : D) (block : List ℕ) (old new : Gathering) → IsFilledBy place block old new
      → ((c : Cartridge) → drive.held a ≡ Some c → IsBlock (tape_of c) place block) → HasBlocks drive (place ∷ []) a old new
  fetched_one place a block old new fills is = record {
    pieces = fills.pieces;
    filled = λ c h read g. fills.filled (tape_of c) read (is c h) g;
  }

  -- ---- several

  pub fetched_none : (a : D) (old : Gathering) → drive.commands a ≤ 2 ^ 64 - 1 → AreFetched drive [] a a old old
  fetched_none a old few = record {
    blocks = record { pieces = refl; filled = λ c h read g. g };
    later = omega arith;
    looks = subst (λ (most : ℕ). Looks drive most a a) (none drive.MOST) (no_looks drive a few);
  }
    where
      none : (n : ℕ) → 0 ≡ 2 * 0 * n
      none n = omega arith

  joined : (n most : ℕ) → 2 * n * most + 2 * most ≡ 2 * (n + 1) * most
  joined n most = omega arith

  fetched_on : (front : List Place) (place : Place) (a b d : D) (start old new : Gathering) → AreFetched drive front a b start old
      → HasBlocks drive (place ∷ []) b old new → drive.faults b ≤ drive.faults d → Looks drive (2 * drive.MOST) b d → AreFetched drive (front ++ place ∷ []) a d start new
  fetched_on front place a b d start old new first second later looks = record {
    blocks = record {
      pieces = second.pieces ∙ first.blocks.pieces;
      filled = λ c h read g. subst (λ (p : Places). IsGathering (tape_of c) p new) (sym (fold-append with_place read front (place ∷ [])))
          (second.filled c (first.looks.held ∙ h) (with_places read front) (first.blocks.filled c h read g));
    };
    later = omega (arith, first.later, later);
    looks =
        subst (λ (n : ℕ). Looks drive (2 * n * drive.MOST) a d) (sym (length-append front (place ∷ [])))
        (subst (λ (most : ℕ). Looks drive most a d) (joined (length front) drive.MOST)
        (then_looks drive (2 * length front * drive.MOST) (2 * drive.MOST) a b d first.looks looks));
  }

  -- one block more is put into the reading behind those before
  pub fetched_next : (places : List Place) (i : ℕ) (p : Place) (a b d : D) (start old new : Gathering) → i < length places
      → AreFetched drive (take i places) a b start old → HasBlocks drive (get_or places i p ∷ []) b old new → drive.faults b ≤ drive.faults d
      → Looks drive (2 * drive.MOST) b d → AreFetched drive (take (i + 1) places) a d start new
  fetched_next places i p a b d start old new lt first second later looks =
      subst (λ (ps : List Place). AreFetched drive ps a d start new) (sym (next_place places i p lt))
      (fetched_on (take i places) (get_or places i p) a b d start old new first second later looks)

  pub fetched_all : (places : List Place) (i : ℕ) (a b : D) (start new : Gathering) → length places ≤ i → AreFetched drive (take i places) a b start new
      → AreFetched drive places a b start new
  fetched_all places i a b start new le fetched = subst (λ (ps : List Place). AreFetched drive ps a b start new) (take_all i places le) fetched

  times_more : (m n most : ℕ) → m + 1 ≤ n → 2 * m * most + 2 * most ≤ 2 * n * most
  times_more m n most le = subst (λ (x : ℕ). x ≤ 2 * n * most) (sum m most) (mul-le (2 * (m + 1)) most (2 * n) most (omega (arith, le)) (omega arith))
    where
      sum : (m most : ℕ) → 2 * (m + 1) * most ≡ 2 * m * most + 2 * most
      sum m most = omega arith

  taken_long : (places : List Place) (i : ℕ) → i ≤ length places → length (take i places) ≡ i
  taken_long places i le = omega (arith, length-take i places, le)

  -- one that failed behind some
  pub looks_so_far : (places : List Place) (i : ℕ) (a b e : D) (start old : Gathering) → i < length places
      → AreFetched drive (take i places) a b start old → Looks drive (2 * drive.MOST) b e → Looks drive (2 * length places * drive.MOST) a e
  looks_so_far places i a b e start old lt first second =
      more_looks drive (2 * length (take i places) * drive.MOST + 2 * drive.MOST) (2 * length places * drive.MOST) a e
      (times_more (length (take i places)) (length places) drive.MOST (omega (arith, taken_long places i (omega (arith, lt)), lt)))
      (then_looks drive (2 * length (take i places) * drive.MOST) (2 * drive.MOST) a b e first.looks second)

rose_since : (a b e : ℕ) → a ≤ b → Rose b e → Rose a e
rose_since a b e le rose = omega (arith, le, rose)

-- ---- all of them

-- a place of the list is one of those that were read
all_read : (places : List Place) (read : Places) (place : Place) → (read place ≡ true) ⊎ (has_place place places ≡ true) → with_places read places place ≡ true
all_read [] read place (inl is) = is
all_read [] read place (inr none) = absurd (cc none)
all_read (p ∷ places) read place is = all_read places (with_place read p) place (by (same_place p place) refl is)
  where
    by : (b : Bool) → same_place p place ≡ b → (read place ≡ true) ⊎ ((same_place place p || has_place place places) ≡ true)
        → (cond b true (read place) ≡ true) ⊎ (has_place place places ≡ true)
    by true same is = inl refl
    by false same (inl is) = inl is
    by false same (inr is) = inr (sym (ap (λ t. t || has_place place places) (same_back place p ∙ same)) ∙ is)

module _ {D : Type 0} (drive : Ghosts D) (a b : D) where
  -- once all blocks of the pieces were read, the read is answered what they read
  pub pieces_read : (pieces : List Piece) (places slice : List Place) (start new : Gathering) (r : Answer) → start.pieces ≡ pieces → places ≡ places_in start.pieces
      → slice ≡ places → ((tape : _) → IsGathering tape (λ place. false) start) → AreFetched drive slice a b start new → IsAnswered new r
      → IsReadBy drive (length (places_in pieces)) (λ c. read_answer (tape_of c) pieces) a b (Ok r)
  pieces_read pieces places slice start new r pieces_are places_are same begun fetched answered =
      let all : slice ≡ places_in pieces = same ∙ places_are ∙ ap places_in pieces_are in
      let kept : new.pieces ≡ pieces = fetched.blocks.pieces ∙ pieces_are in
      record {
        answer = λ c h.
            answered (tape_of c) (with_places (λ place. false) slice) (fetched.blocks.filled c h (λ place. false) (begun (tape_of c)))
            (λ place has. all_read slice (λ p. false) place (inr (ap (has_place place) (all ∙ sym (ap places_in kept)) ∙ has)))
            ∙ ap (read_answer (tape_of c)) kept;
        later = fetched.later;
        counts = tt;
        looks = subst (λ (ps : List Place). Looks drive (2 * length ps * drive.MOST) a b) all fetched.looks;
      }

  -- an answer for which no block is needed is one of a read of the drive
  pub not_read : (n : ℕ) (wanted : Cartridge → Answer) (r : Answer) → drive.commands a ≤ 2 ^ 64 - 1 → ((c : Cartridge) → r ≡ wanted c)
      → IsReadBy drive n wanted a a (Ok r)
  not_read n wanted r few is = record {
    answer = λ c h. is c;
    later = omega arith;
    counts = tt;
    looks = more_looks drive 0 (2 * n * drive.MOST) a a (omega arith) (no_looks drive a few);
  }
