-- Reading the document of an index.
use Rattle.std.proofs.Common.{ℕ, zero, suc, ◌+◌, ◌*◌, ◌-◌, ◌^◌, ◌≤◌, ◌<◌, ◌≡◌, Bool, true, false, List, [], ◌∷◌, ◌++◌, length, take, drop, slice_get, get_or, Option, Some, None, Ok, refl, sym, ◌∙◌, ap, subst, arith, append_assoc, length-append, length-drop, take-add, take_all, take_at}
use Rattle.std.specs.Prelude.{nat_eq}
use Rattle.std.specs.List.{concat, starts_with}
use Rattle.std.proofs.lemmas.Option.{slice_get-get_or}
use Rattle.std.proofs.lemmas.Bool.Decides.{Decides-eqb}
use Rattle.std.proofs.lemmas.Slice.Eq.{starts_is}
use Rattle.tape_types.specs.declared.cartridges.Cartridge.{Cartridge}
use Rattle.tape_types.specs.declared.cartridges.Item.{Item}
use Rattle.tape_types.specs.declared.cartridges.Item.TheVariants.{Block, Mark, Torn}
use Rattle.tape_types.specs.declared.cartridges.Place.{Place}
use Rattle.tape_types.specs.Cartridges.{items_of, next}
use Rattle.tape_drive.specs.Commands.{IsRead, after_read, item_at}
use Rattle.tape_drive.specs.Looks.{Looks}
use Rattle.tape_drive.specs.declared.drive.Drive.{Ghosts}
use Rattle.tape_drive.specs.declared.drive.Got.{Got}
use Rattle.tape_drive.specs.declared.drive.Got.TheVariants as got
use Rattle.tape_drive.proofs.Looking.{no_looks, then_looks}
use Rattle.std.specs.Prelude.{IfSome}
use Rattle.tape_types.specs.declared.cartridges.Part.{Part}
use Rattle.tape_types.specs.Cartridges.{capacity}
use Rattle.index_model.specs.Grammar.{Stops}
use Rattle.index_model.specs.declared.errors.IndexErr.{IndexErr}
use Rattle.index_model.specs.declared.errors.IndexErr.TheVariants as index_errors
use Rattle.index_read.specs.Answers.{UnlessMemory}
use Rattle.content_laws.specs.Readings as readings
use Rattle.content_laws.specs.Readings.{StandAt, after_of, front}
use Rattle.content_laws.specs.Ends.{end_dp}
use Rattle.content_laws.proofs.Placed.{AreOrdered, content_placed, end_dp_within}
use Rattle.content_laws.proofs.Whole.{front_within}
use Rattle.cartridge_meaning.specs.Pointers.{text_of}
use Rattle.volume_scan.specs.declared.content.Construct.{Construct}
use Rattle.mount_recover.specs.Lasts.{HasIndexAt, IsBadText, IsInPlace, IsPut, IsTrueAt, told}
use Rattle.mount_recover.specs.Steps.{IsFree, IsSince, IsStep}
use Rattle.mount_recover.specs.declared.documents.Beside.{Beside}
use Rattle.mount_recover.specs.declared.starts.Start.{Start}
use Rattle.content_laws.proofs.Stands.{index_stands}
use Rattle.mount_recover.proofs.StepLemmas.{at_told, looks_more, since_next}

-- what a read of a block leaves
pub block_read : (x : Option Item) (answer : Got) (buf b : List ℕ) → IsRead x answer buf → x ≡ Some (Block b) → (answer ≡ got.Block) × (buf ≡ b)
block_read None answer buf b read is = absurd (cc is)
block_read (Some Mark) answer buf b read is = absurd (cc is)
block_read (Some Torn) answer buf b read is = absurd (cc is)
block_read (Some (Block d)) answer buf b read is = let same : d ≡ b = cc is in (read.0, read.1 ∙ same)

-- a read that answers a block leaves the head at the next position
pub after_block_read : (answer : Got) (at : Place) → answer ≡ got.Block → after_read answer at ≡ next at
after_block_read answer at is = subst (λ (a : Got). after_read a at ≡ next at) (sym is) refl

-- one block more joins those before it
pub concat_more : (bs : List (List ℕ)) (n : ℕ) (b : List ℕ) → slice_get bs n ≡ Some b → concat (take (suc n) bs) ≡ concat (take n bs) ++ b
concat_more [] n b is = absurd (cc is)
concat_more (x ∷ bs) zero b is = let same : x ≡ b = cc is in append_nil x ∙ same
  where
    append_nil : (x : List ℕ) → x ++ [] ≡ x
    append_nil [] = refl
    append_nil (a ∷ x) = ap (λ (l : List ℕ). a ∷ l) (append_nil x)
concat_more (x ∷ bs) (suc n) b is = ap (λ (l : List ℕ). x ++ l) (concat_more bs n b is) ∙ sym (append_assoc x (concat (take n bs)) b)

-- ---- a block behind the bytes that are read

-- the rest of a list is all from its place on
pub rest_of : (at : ℕ) (xs : List ℕ) → take (length xs - at) (drop at xs) ≡ drop at xs
rest_of at xs = take_all (length xs - at) (drop at xs) (omega (arith, length-drop at xs))

module _ (read : Beside) (block before : List ℕ) (within : read.at ≤ length before) where
  -- a block that stands there already is read without being put
  pub stands_there : starts_with nat_eq (drop read.at before) block ≡ true
      → IsPut read block before before (record { at = read.at + length block; same = read.same })
  stands_there begins =
      let rest : drop read.at before ≡ block ++ drop (length block) (drop read.at before) =
      (starts_is Decides-eqb (drop read.at before) block (starts_with nat_eq (drop read.at before) block) refl).0 begins in
      let there : take (length block) (drop read.at before) ≡ block =
      ap (take (length block)) rest ∙ take_at block (drop (length block) (drop read.at before)) (length block) refl in
      record {
        within = omega (
          arith,
          within,
          length-drop read.at before,
          ap length rest,
          length-append block (drop (length block) (drop read.at before)),
        );
        bytes = take-add read.at (length block) before ∙ ap (λ (l : List ℕ). take read.at before ++ l) there;
        same = λ is. (is, refl);
      }

  pub put_there : (after : List ℕ) (at : ℕ) → after ≡ take read.at before ++ block → at ≡ length after
      → IsPut read block before after (record { at = at; same = false })
  put_there after at is long =
      record { within = omega (arith, long); bytes = take_all at after (omega (arith, long)) ∙ is; same = λ bad. absurd (cc bad) }

module _ {D : Type 0} (drive : Ghosts D) where
  -- so many blocks have been read, in place of a text
  pub record Going (first now : D) (before document : List ℕ) (blocks done : ℕ) (read : Beside) : Type 0 where
    pub looks : Looks drive (done * drive.MOST) first now
    pub head : (at : Place) × (drive.head now ≡ Some at)
    pub later : drive.faults first ≤ drive.faults now
    pub within : done ≤ blocks
    pub put : read.at ≤ length document
    pub same : read.same ≡ true → document ≡ before
    pub told : (at : Place) (c : Cartridge) (bs : List (List ℕ)) → drive.head first ≡ Some at → drive.held first ≡ Some c → length bs ≡ blocks
        → StandAt (items_of at.part c) at.pos bs
        → (drive.head now ≡ Some (record { part = at.part; pos = at.pos + done })) × (take read.at document ≡ concat (take done bs))

  -- before its first block nothing of a document is read
  pub begun : (first : D) (before : List ℕ) (blocks : ℕ) → drive.commands first ≤ 2 ^ 64 - 1 → (at : Place) × (drive.head first ≡ Some at)
      → Going first first before before blocks 0 (record { at = 0; same = true })
  begun first before blocks commands head = record {
    looks = subst (λ (most : ℕ). Looks drive most first first) (none drive.MOST) (no_looks drive first commands);
    head = head;
    later = omega arith;
    within = omega arith;
    put = omega arith;
    same = λ is. refl;
    told = λ at c bs h k len stand. (h ∙ ap Some (place_same at), refl);
  }
    where
      none : (k : ℕ) → 0 ≡ 0 * k
      none k = omega arith

      place_same : (at : Place) → at ≡ record { part = at.part; pos = at.pos + 0 }
      place_same at = let same : at.pos ≡ at.pos + 0 = omega arith in λ i. record { part = at.part; pos = same i }

  -- one block more of a document is read, or found to stand there
  pub goes_on : (first now after : D) (before document more buffer : List ℕ) (blocks done : ℕ) (read next_read : Beside)
      → Going first now before document blocks done read → done < blocks
      → (at : Place) × (drive.head after ≡ Some at) → drive.faults now ≤ drive.faults after → Looks drive drive.MOST now after
      → IsPut read buffer document more next_read
      → ((at : Place) (c : Cartridge) (b : List ℕ) → drive.head now ≡ Some at → drive.held now ≡ Some c → item_at at c ≡ Some (Block b)
      → (drive.head after ≡ Some (next at)) × (buffer ≡ b))
      → Going first after before more blocks (done + 1) next_read
  goes_on first now after before document more buffer blocks done read next_read going lt head later look put step = record {
    looks =
        subst (λ (most : ℕ). Looks drive most first after) (one_more done drive.MOST)
        (then_looks drive (done * drive.MOST) drive.MOST first now after going.looks look);
    head = head;
    later = omega (arith, going.later, later);
    within = omega (arith, lt);
    put = put.within;
    same = λ is. (put.same is).1 ∙ going.same (put.same is).0;
    told = λ at c bs h k len stand.
        let t = going.told at c bs h k len stand in
        let is : slice_get bs done ≡ Some (get_or bs done []) = slice_get-get_or bs done [] (omega (arith, len, lt)) in
        let s = step (record { part = at.part; pos = at.pos + done }) c (get_or bs done []) t.0 (going.looks.held ∙ k) (stand done (get_or bs done []) is) in (
          s.0 ∙ ap Some (place_more at),
          put.bytes
              ∙ ap (λ (l : List ℕ). l ++ buffer) t.1
              ∙ ap (λ (l : List ℕ). concat (take done bs) ++ l) s.1
              ∙ sym (concat_more bs done (get_or bs done []) is)
              ∙ ap (λ (n : ℕ). concat (take n bs)) next_is,
        );
  }
    where
      next_is : suc done ≡ done + 1
      next_is = omega arith

      one_more : (n k : ℕ) → n * k + k ≡ (n + 1) * k
      one_more n k = omega arith

      place_more : (at : Place) → next (record { part = at.part; pos = at.pos + done }) ≡ record { part = at.part; pos = at.pos + (done + 1) }
      place_more at = let same : at.pos + done + 1 ≡ at.pos + (done + 1) = omega arith in λ i. record { part = at.part; pos = same i }

  module _ (first now : D) (before document left : List ℕ) (blocks done : ℕ) (read : Beside)
      (going : Going first now before document blocks done read) (le : blocks ≤ done) (cut : left ≡ take read.at document) where
    -- once all its blocks are read, the document is what stands there
    pub all_read : (at : Place) (c : Cartridge) (bs : List (List ℕ)) → drive.head first ≡ Some at → drive.held first ≡ Some c → length bs ≡ blocks
        → StandAt (items_of at.part c) at.pos bs → left ≡ concat bs
    all_read at c bs h k len stand =
        cut ∙ (going.told at c bs h k len stand).1 ∙ ap concat (take_all done bs (omega (arith, going.within, le, len)))

    pub all_same : read.same ≡ true → read.at ≡ length document → left ≡ before
    all_same same long = cut ∙ take_all read.at document (omega (arith, long)) ∙ going.same same

    -- reading a document takes as many reads as it has blocks
    pub all_looks : Looks drive (blocks * drive.MOST) first now
    all_looks =
        let same : done ≡ blocks = omega (arith, going.within, le) in subst (λ (n : ℕ). Looks drive (n * drive.MOST) first now) same going.looks

-- ---- where an index of a partition stands

-- one of these indexes ends within the last of them
one_within : (newer : List readings.Construct) (k : readings.Construct) (older : List readings.Construct) → AreOrdered (newer ++ k ∷ older)
    → after_of k ≤ end_dp (newer ++ k ∷ older)
one_within [] k older ordered = omega arith
one_within (q ∷ newer) k older ordered = omega (arith, one_within newer k older ordered.2, ordered.1)

index_within : (items : List Item) (place : Construct) → HasIndexAt items place → place.first ≤ length items
index_within items place known =
    let ordered = subst AreOrdered known.parts (content_placed items).ordered in
    let ends : end_dp (known.newer ++ known.k ∷ known.older) ≤ length (front items) =
    subst (λ (ks : List readings.Construct). end_dp ks ≤ length (front items)) known.parts (end_dp_within items known.long) in
    omega (
      arith,
      ap (λ (p : Construct). p.first) known.place_is,
      one_within known.newer known.k known.older ordered,
      ends,
      front_within items,
    )

-- an index that stands on a partition begins within it
pub indexes_within : (part : Part) (place : Construct) (o : Option Cartridge) → IfSome o (λ c. HasIndexAt (items_of part c) place)
    → IfSome o (λ c. place.first ≤ length (items_of part c))
indexes_within part place None known = tt
indexes_within part place (Some c) known = index_within (items_of part c) place known

document_told : (items : List Item) (place : Construct) (blocks : ℕ) (document : List ℕ) → HasIndexAt items place → blocks ≡ place.after - place.first - 1
    → ((bs : List (List ℕ)) → length bs ≡ blocks → StandAt items place.first bs → document ≡ concat bs)
    → IsTrueAt items place (λ k. document ≡ text_of k)
document_told items place blocks document known count read = λ newer k older are same.
    read k.blocks
    (omega (arith, count, ap (λ (p : Construct). p.first) same, ap (λ (p : Construct). p.after) same))
    (subst (λ (n : ℕ). StandAt items n k.blocks) (ap (λ (p : Construct). p.first) same) (index_stands items newer k older known.form are).stand)

-- the document was read
pub document_step : {D : Type 0} (drive : Ghosts D) (start : Start) (a b d : D) (part : Part) (place : Construct) (blocks : ℕ) (same : Bool)
    (before document : List ℕ) → IsSince drive start a → IsInPlace (capacity part start.limits) place
    → IfSome (drive.held a) (λ c. HasIndexAt (items_of part c) place)
    → blocks ≡ place.after - place.first - 1 → Looks drive drive.MOST a b → drive.faults a ≤ drive.faults b
    → drive.head b ≡ Some (record { part = part; pos = place.first }) → Looks drive (blocks * drive.MOST) b d → drive.faults b ≤ drive.faults d
    → ((at : Place) (c : Cartridge) (bs : List (List ℕ)) → drive.head b ≡ Some at → drive.held b ≡ Some c → length bs ≡ blocks
    → StandAt (items_of at.part c) at.pos bs → document ≡ concat bs) → (same ≡ true → document ≡ before)
    → IsStep drive start (place.after - place.first) a d (λ (same : Bool) c. IsTrueAt (items_of part c) place (λ k. document ≡ text_of k))
    (λ same. same ≡ true → document ≡ before) IsFree (Ok same)
document_step drive start a b d part place blocks same before document since in_place known count look later head looks more read alike =
    let both = looks_more drive start (1 + blocks) (place.after - place.first) a d (omega (arith, count, in_place.block))
    (subst (λ (most : ℕ). Looks drive most a d) (one_first blocks drive.MOST) (then_looks drive drive.MOST (blocks * drive.MOST) a b d look looks)) in
    let now : start.faults ≤ drive.faults d = omega (arith, since.faults, later, more) in
    record {
      found = λ c h. document_told (items_of part c) place blocks document (at_told (λ c. HasIndexAt (items_of part c) place) h known) count
          (λ bs len stand. read (record { part = part; pos = place.first }) c bs head (look.held ∙ h) len stand);
      any = alike;
      refused = tt;
      counts = record { later = now; told = tt };
      looks = both;
      since = since_next drive start _ a d since both now;
    }
  where
    one_first : (n k : ℕ) → k + n * k ≡ (1 + n) * k
    one_first n k = omega arith

-- a document that is none of an index
pub bad_text : (text : List ℕ) (uuid : ℕ) (place : Place) (fault : IndexErr) → UnlessMemory fault (Stops text fault) → IsBadText text uuid place (told place fault)
bad_text text uuid place index_errors.NoMemory stops = tt
bad_text text uuid place index_errors.Version stops = (refl, stops)
bad_text text uuid place fault stops = (refl, stops)
