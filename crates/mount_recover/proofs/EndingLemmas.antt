-- Reading the index with which a partition ends.
use Rattle.std.proofs.Common.{ℕ, zero, suc, ◌+◌, ◌-◌, ◌*◌, ◌^◌, ◌≤◌, ◌<◌, ◌≡◌, ◌≢◌, Bool, true, List, [], ◌∷◌, ◌++◌, length, take, slice_get, get_or, Option, Some, None, Ok, Err, refl, sym, ◌∙◌, ap, subst, arith, take_all}
use Rattle.std.specs.Prelude.{IfNone, IfSome, MatchOption, ◌↔◌}
use Rattle.std.specs.List.{concat}
use Rattle.std.proofs.lemmas.Option.{slice_get-get_or, slice_get_within}
use Rattle.tape_types.specs.declared.cartridges.Cartridge.{Cartridge}
use Rattle.tape_types.specs.declared.cartridges.Item.{Item}
use Rattle.tape_types.specs.declared.cartridges.Item.TheVariants.{Block, Mark}
use Rattle.tape_types.specs.declared.cartridges.Part.{Part}
use Rattle.tape_types.specs.declared.cartridges.Place.{Place}
use Rattle.tape_types.specs.Cartridges.{items_of, next}
use Rattle.tape_drive.specs.Commands.{item_at}
use Rattle.tape_drive.specs.Looks.{Looks}
use Rattle.tape_drive.specs.declared.drive.Drive.{Ghosts}
use Rattle.tape_drive.proofs.Looking.{no_looks, then_looks}
use Rattle.mount_recover.specs.Lasts.{IsPut}
use Rattle.tape_types.specs.Counts.{Rose}
use Rattle.tape_types.specs.Cartridges.{FitsLimits, capacity}
use Rattle.content_laws.specs.Readings as readings
use Rattle.content_laws.specs.Readings.{IsIndexAt, front}
use Rattle.content_laws.specs.Ends.{EndsWithLast, end_dp}
use Rattle.content_laws.proofs.Placed.{AreOrdered, content_placed, end_dp_within}
use Rattle.content_laws.proofs.Whole.{front_within}
use Rattle.cartridge_meaning.specs.Pointers.{indexes_of}
use Rattle.cartridge_meaning.specs.declared.errors.MountErr.{MountErr}
use Rattle.cartridge_meaning.specs.declared.errors.MountErr.TheVariants as errors
use Rattle.volume_scan.specs.Scans.{places_of}
use Rattle.volume_scan.specs.declared.content.Construct.{Construct}
use Rattle.mount_recover.specs.Known.{blocks_of_newest}
use Rattle.mount_recover.specs.Labels.{StopCause}
use Rattle.mount_recover.specs.declared.items.Stop.{Stop}
use Rattle.mount_recover.specs.declared.items.Stop.TheVariants as stops
use Rattle.mount_recover.specs.Lasts.{IsDocument, newest}
use Rattle.mount_recover.specs.Steps.{IsFree, IsSince, IsStepBy}
use Rattle.mount_recover.specs.declared.starts.Start.{Start}
use Rattle.mount_recover.proofs.FlagLemmas.{fits_count, past}
use Rattle.content_laws.proofs.Stands.{index_stands}
use Rattle.mount_recover.proofs.StepLemmas.{at_told, by_step, failed_by, free_step, since_next}
use Rattle.mount_recover.specs.Noted.{EndsAt, IsEnding, IsLastFrom}
use Rattle.mount_recover.specs.Noted.{IsAhead, IsReadToEnd, IsNext, IsPast, IsPutNext, IsRun, IsRunOf, Took}
use Rattle.mount_recover.specs.declared.documents.Beside.{Beside}
use Rattle.mount_recover.specs.declared.endings.Ending.{Ending}
use Rattle.mount_recover.specs.declared.endings.Next.{Next}
use Rattle.mount_recover.specs.declared.endings.Next.TheVariants as nexts
use Rattle.mount_recover.specs.declared.endings.Run.{Run}
use Rattle.mount_recover.proofs.DocumentLemmas.{concat_more}

-- what stands in an index behind so many of its blocks
block_there : (items : List Item) (mark : ℕ) (bs : List (List ℕ)) (i : ℕ) → IsIndexAt items mark bs → i < length bs
    → slice_get items (mark + 1 + i) ≡ Some (Block (get_or bs i []))
block_there items mark bs i s lt = s.stand i (get_or bs i []) (slice_get-get_or bs i [] lt)

mark_there : (items : List Item) (mark : ℕ) (bs : List (List ℕ)) (i : ℕ) → IsIndexAt items mark bs → i ≡ length bs
    → slice_get items (mark + 1 + i) ≡ Some Mark
mark_there items mark bs i s is = subst (λ (n : ℕ). slice_get items (mark + 1 + n) ≡ Some Mark) (sym is) s.closes

same_part : (p q : Part) (n : ℕ) → ◌≡◌ {A = Option Place} (Some (record { part = p; pos = n })) (Some (record { part = q; pos = n })) → p ≡ q
same_part p q n is = let same : ◌≡◌ {A = Place} (record { part = p; pos = n }) (record { part = q; pos = n }) = cc is in ap (λ (x : Place). x.part) same

module _ {D : Type 0} (drive : Ghosts D) where
  -- blocks have been read from a position to another, in place of a text
  pub record Going (first now : D) (from pos positions : ℕ) (before document : List ℕ) (read : Beside) : Type 0 where
    pub looks : Looks drive ((pos - from) * drive.MOST) first now
    pub low : from ≤ pos
    pub high : pos ≤ positions
    pub part : Part
    pub began : drive.head first ≡ Some (record { part = part; pos = from })
    pub head : drive.head now ≡ Some (record { part = part; pos = pos })
    pub later : drive.faults first ≤ drive.faults now
    pub put : read.at ≤ length document
    pub same : read.same ≡ true → document ≡ before
    pub told : (c : Cartridge) (bs : List (List ℕ)) → IsAhead drive first from (from - 1) positions c bs
        → (pos - from ≤ length bs) × (take read.at document ≡ concat (take (pos - from) bs))

  -- nothing has been read
  pub begun : (first : D) (from positions : ℕ) (before : List ℕ) → from < positions → drive.commands first ≤ 2 ^ 64 - 1
      → (part : Part) × (drive.head first ≡ Some (record { part = part; pos = from }))
      → Going first first from from positions before before (record { at = 0; same = true })
  begun first from positions before lt commands head = record {
    looks = subst (λ (most : ℕ). Looks drive most first first) (none from drive.MOST) (no_looks drive first commands);
    low = omega arith;
    high = omega (arith, lt);
    part = head.0;
    began = head.1;
    head = head.1;
    later = omega arith;
    put = omega arith;
    same = λ is. refl;
    told = λ c bs ahead. (omega arith, ap (λ (n : ℕ). concat (take n bs)) (zero_is from));
  }
    where
      zero_is : (n : ℕ) → 0 ≡ n - n
      zero_is n = omega arith

      none : (n k : ℕ) → 0 ≡ (n - n) * k
      none n k = subst (λ (m : ℕ). 0 ≡ m * k) (zero_is n) (omega arith)

  module _ (first now : D) (from pos positions : ℕ) (before document : List ℕ) (read : Beside)
      (some : 1 ≤ from) (going : Going first now from pos positions before document read) (lt : pos < positions) where
    -- what a drive tells of the item at the head
    module _ (c : Cartridge) (bs : List (List ℕ)) (ahead : IsAhead drive first from (from - 1) positions c bs) where
      part_is : ahead.part ≡ going.part
      part_is = same_part ahead.part going.part from (sym ahead.head ∙ going.began)

      stands : IsIndexAt (items_of going.part c) (from - 1) bs
      stands = subst (λ (p : Part). IsIndexAt (items_of p c) (from - 1) bs) part_is ahead.index

      abbrev at : Place
      at = record { part = going.part; pos = pos }

      held : drive.held now ≡ Some c
      held = going.looks.held ∙ ahead.held

      here : (n : ℕ) → n ≡ pos → (x : Item) → slice_get (items_of going.part c) n ≡ Some x → item_at at c ≡ Some x
      here n same x is = subst (λ (m : ℕ). slice_get (items_of going.part c) m ≡ Some x) same is

      block_here : pos - from < length bs → item_at at c ≡ Some (Block (get_or bs (pos - from) []))
      block_here below = here (from - 1 + 1 + (pos - from)) (omega (arith, some, going.low)) _
          (block_there (items_of going.part c) (from - 1) bs (pos - from) stands below)

      mark_here : pos - from ≡ length bs → item_at at c ≡ Some Mark
      mark_here is = here (from - 1 + 1 + (pos - from)) (omega (arith, some, going.low)) Mark
          (mark_there (items_of going.part c) (from - 1) bs (pos - from) stands is)

      within : pos - from ≤ length bs
      within = (going.told c bs ahead).0

      -- an item that is no block closes the index
      no_block : (it : Next) (buffer : List ℕ) → IsNext (item_at at c) it buffer → ((r : Beside) → it ≢ nexts.Block r) → pos - from ≡ length bs
      no_block it buffer told none = by_order (pos - from) (length bs) within
          (λ below. let b = told.block _ (block_here below) in none b.0 b.1)
        where
          by_order : (m n : ℕ) → m ≤ n → (m < n → ⊥) → m ≡ n
          by_order zero zero le not_below = refl
          by_order zero (suc n) le not_below = absurd (not_below (omega arith))
          by_order (suc m) zero le not_below = absurd (omega (arith, le))
          by_order (suc m) (suc n) le not_below = ap suc (by_order m n (omega (arith, le)) (λ below. not_below (omega (arith, below))))

      -- an item that is no mark is a block of the index
      no_mark : (it : Next) (buffer : List ℕ) → IsNext (item_at at c) it buffer → it ≢ nexts.Mark → pos - from < length bs
      no_mark it buffer told none = by_order (pos - from) (length bs) within (λ is. none (told.mark (mark_here is)))
        where
          by_order : (m n : ℕ) → m ≤ n → m ≢ n → m < n
          by_order zero zero le differ = absurd (differ refl)
          by_order zero (suc n) le differ = omega arith
          by_order (suc m) zero le differ = absurd (omega (arith, le))
          by_order (suc m) (suc n) le differ = let less = by_order m n (omega (arith, le)) (λ same. differ (ap suc same)) in omega (arith, less)

    -- a block further
    pub goes_on : (after : D) (more buffer : List ℕ) (it : Next) (next_read : Beside) → it ≡ nexts.Block next_read
        → drive.faults now ≤ drive.faults after → Looks drive drive.MOST now after
        → ((at : Place) → drive.head now ≡ Some at → IsPast drive it at after) → IsPutNext read buffer document more it
        → ((at : Place) (c : Cartridge) → drive.head now ≡ Some at → drive.held now ≡ Some c → IsNext (item_at at c) it buffer)
        → Going first after from (pos + 1) positions before more next_read
    goes_on after more buffer it next_read block later look heads puts told = record {
      looks =
          subst (λ (most : ℕ). Looks drive most first after) (one_more (pos - from) (pos + 1 - from) drive.MOST (omega (arith, going.low)))
          (then_looks drive ((pos - from) * drive.MOST) drive.MOST first now after going.looks look);
      low = omega (arith, going.low);
      high = omega (arith, lt);
      part = going.part;
      began = going.began;
      head = head (record { part = going.part; pos = pos }) going.head;
      later = omega (arith, going.later, later);
      put = put.within;
      same = λ is. (put.same is).1 ∙ going.same (put.same is).0;
      told = λ c bs ahead.
          let is = told (at c bs ahead) c going.head (held c bs ahead) in
          let below = no_mark c bs ahead it buffer is (λ mark. let bad : nexts.Block next_read ≡ nexts.Mark = sym block ∙ mark in cc bad) in
          let b = is.block _ (block_here c bs ahead below) in (
            omega (arith, below),
            put.bytes
                ∙ ap (λ (l : List ℕ). l ++ buffer) (going.told c bs ahead).1
                ∙ ap (λ (l : List ℕ). concat (take (pos - from) bs) ++ l) b.2
                ∙ sym (concat_more bs (pos - from) (get_or bs (pos - from) []) (slice_get-get_or bs (pos - from) [] below))
                ∙ ap (λ (n : ℕ). concat (take n bs)) next_is,
          );
    }
      where
        put : IsPut read buffer document more next_read
        put = subst (IsPutNext read buffer document more) block puts

        head : (at : Place) → drive.head now ≡ Some at → drive.head after ≡ Some (record { part = at.part; pos = at.pos + 1 })
        head at is = subst (λ (n : Next). IsPast drive n at after) block (heads at is)

        one_more : (n m k : ℕ) → n + 1 ≡ m → n * k + k ≡ m * k
        one_more n m k is = subst (λ (x : ℕ). n * k + k ≡ x * k) is (omega arith)

        next_is : suc (pos - from) ≡ pos + 1 - from
        next_is = omega (arith, going.low)

    -- the mark behind the blocks
    module _ (buffer more left : List ℕ) (it : Next) (mark : it ≡ nexts.Mark) (run : Run) (run_is : run.after ≡ pos + 1)
        (told : (at : Place) (c : Cartridge) → drive.head now ≡ Some at → drive.held now ≡ Some c → IsNext (item_at at c) it buffer)
        (puts : IsPutNext read buffer document more it) (cut_is : left ≡ take read.at more) where
      cut : left ≡ take read.at document
      cut =
          let same : more ≡ document = subst (IsPutNext read buffer document more) mark puts in
          cut_is ∙ ap (take read.at) same

      -- these are all blocks of the index
      pub closed_told : (c : Cartridge) (bs : List (List ℕ)) → IsAhead drive first from (from - 1) positions c bs
          → (r : Run) × (Some run ≡ Some r) × IsRunOf from left bs r
      closed_told c bs ahead =
          let is = no_block c bs ahead it buffer (told (at c bs ahead) c going.head (held c bs ahead))
          (λ r block. let bad : nexts.Mark ≡ nexts.Block r = sym mark ∙ block in cc bad) in (
            run,
            refl,
            record {
              after = omega (arith, run_is, is, going.low);
              text = cut ∙ (going.told c bs ahead).1 ∙ ap concat (take_all (pos - from) bs (omega (arith, is)));
            },
          )

      -- what is so of the run whether or not the drive tells
      pub closed_any : (run.same ≡ true → (read.same ≡ true) × (read.at ≡ length more)) → IsRun from positions before left run
      closed_any all = record {
        low = omega (arith, run_is, going.low);
        high = omega (arith, run_is, lt);
        same = λ is.
            let same : more ≡ document = subst (IsPutNext read buffer document more) mark puts in
            cut_is ∙ take_all read.at more (omega (arith, (all is).1)) ∙ same ∙ going.same (all is).0;
      }

    -- the head stands behind the mark
    pub closed_head : (after : D) (it : Next) → it ≡ nexts.Mark → ((at : Place) → drive.head now ≡ Some at → IsPast drive it at after)
        → (part : Part) → drive.head first ≡ Some (record { part = part; pos = from }) → drive.head after ≡ Some (record { part = part; pos = pos + 1 })
    closed_head after it mark heads part is =
        let same : going.part ≡ part = same_part going.part part from (sym going.began ∙ is) in
        subst (λ (n : Next). IsPast drive n (record { part = part; pos = pos }) after) mark
        (heads (record { part = part; pos = pos }) (going.head ∙ ap (λ (p : Part). Some (record { part = p; pos = pos })) same))

    -- one command more, and nothing that closes the index
    pub other_told : (buffer : List ℕ) (it : Next) (c : Cartridge) (bs : List (List ℕ)) → IsAhead drive first from (from - 1) positions c bs
        → ((at : Place) (c : Cartridge) → drive.head now ≡ Some at → drive.held now ≡ Some c → IsNext (item_at at c) it buffer)
        → it ≡ nexts.Other → ⊥
    other_told buffer it c bs ahead told other =
        let t = told (at c bs ahead) c going.head (held c bs ahead) in
        let is = no_block c bs ahead it buffer t (λ r block. let bad : nexts.Other ≡ nexts.Block r = sym other ∙ block in cc bad) in
        let below = no_mark c bs ahead it buffer t (λ mark. let bad : nexts.Other ≡ nexts.Mark = sym other ∙ mark in cc bad) in
        omega (arith, is, below)

    -- so many commands were made, with the one that read the item
    pub took_more : (after : D) → Looks drive drive.MOST now after
        → Took drive first after (positions - from) (λ n. (c : Cartridge) (bs : List (List ℕ)) → IsAhead drive first from (from - 1) positions c bs → n ≤ length bs + 1)
    took_more after look = record {
      count = pos + 1 - from;
      looks =
          subst (λ (most : ℕ). Looks drive most first after) (one_more (pos - from) (pos + 1 - from) drive.MOST (omega (arith, going.low)))
          (then_looks drive ((pos - from) * drive.MOST) drive.MOST first now after going.looks look);
      most_is = omega (arith, lt, going.low);
      told = λ c bs ahead. omega (arith, (going.told c bs ahead).0, going.low);
    }
      where
        one_more : (n m k : ℕ) → n + 1 ≡ m → n * k + k ≡ m * k
        one_more n m k is = subst (λ (x : ℕ). n * k + k ≡ x * k) is (omega arith)

  module _ (first now : D) (from pos positions : ℕ) (before document : List ℕ) (read : Beside)
      (going : Going first now from pos positions before document read) (le : positions ≤ pos) where
    -- an index that is told ends before the last position
    pub never_told : (c : Cartridge) (bs : List (List ℕ)) → 1 ≤ from → IsAhead drive first from (from - 1) positions c bs → ⊥
    never_told c bs some ahead = omega (arith, (going.told c bs ahead).0, ahead.within, le, some, going.low)

    -- so many commands were made to the last position
    pub took_all : 1 ≤ from
        → Took drive first now (positions - from) (λ n. (c : Cartridge) (bs : List (List ℕ)) → IsAhead drive first from (from - 1) positions c bs → n ≤ length bs + 1)
    took_all some = record {
      count = pos - from;
      looks = going.looks;
      most_is = omega (arith, going.high);
      told = λ c bs ahead. omega (arith, (going.told c bs ahead).0);
    }

-- ---- a mark, blocks, a mark and the end

none_past : (items : List Item) (count : ℕ) → length items ≤ count → slice_get items count ≡ None
none_past [] count le = refl
none_past (x ∷ items) zero le = absurd (omega (arith, le))
none_past (x ∷ items) (suc count) le = none_past items count (omega (arith, le))

abbrev pub IsEndingOf : ℕ → Run → Bool → Ending → Type 0
IsEndingOf mark run ends e =
    (mark + 3 ≤ run.after) × (ends ≡ true) × (e.same ≡ run.same) × (e.place ≡ record { mark = mark; first = mark + 1; after = run.after })

-- what was read is the index with which the items end, or they go on
pub ended_told : (items : List Item) (mark : ℕ) (bs : List (List ℕ)) (document : List ℕ) (run : Run) (ends : Bool) (found : Option Ending)
    → IsIndexAt items mark bs → 1 ≤ length bs → IsRunOf (mark + 1) document bs run → (ends ≡ true) ↔ (slice_get items run.after ≡ None)
    → IfSome found (IsEndingOf mark run ends) → IfNone found ((mark + 3 ≤ run.after) → ends ≢ true)
    → MatchOption found (length items ≢ mark + length bs + 2) (IsReadToEnd items mark document bs)
ended_told items mark bs document run ends None s some is end found none = λ all.
    none (omega (arith, is.after, some)) (end.1 (none_past items run.after (omega (arith, is.after, all))))
ended_told items mark bs document run ends (Some e) s some is end found none = record {
  ends =
      let most = past items run.after (end.0 found.1) in
      let least = slice_get_within items (mark + 1 + length bs) Mark s.closes in
      omega (arith, most, least, is.after);
  after = omega (arith, ap (λ (p : Construct). p.after) found.3, is.after);
  text = is.text;
}

-- what a run of blocks told, where its result is this
pub run_is : (found : Option Run) (run : Run) (from : ℕ) (document : List ℕ) (bs : List (List ℕ)) → found ≡ Some run
    → (r : Run) × (found ≡ Some r) × IsRunOf from document bs r → IsRunOf from document bs run
run_is found run from document bs is told =
    let both : Some told.0 ≡ Some run = sym told.1 ∙ is in
    let same : told.0 ≡ run = cc both in
    subst (IsRunOf from document bs) same told.2

-- and none is told of no run
pub none_is : (found : Option Run) (from : ℕ) (document : List ℕ) (bs : List (List ℕ)) → found ≡ None
    → (r : Run) × (found ≡ Some r) × IsRunOf from document bs r → ⊥
none_is found from document bs is told = let bad : Some told.0 ≡ None = sym told.1 ∙ is in cc bad

module _ {D : Type 0} (drive : Ghosts D) (mark positions : ℕ) where
  -- the head behind the opening mark
  pub next_ahead : (a b : D) (c : Cartridge) (bs : List (List ℕ)) → drive.held b ≡ drive.held a
      → ((at : Place) → drive.head a ≡ Some at → drive.head b ≡ Some (next at)) → IsAhead drive a mark mark positions c bs
      → IsAhead drive b (mark + 1) (mark + 1 - 1) positions c bs
  next_ahead a b c bs held head ahead = record {
    part = ahead.part;
    head = head (record { part = ahead.part; pos = mark }) ahead.head;
    held = held ∙ ahead.held;
    index = subst (λ (n : ℕ). IsIndexAt (items_of ahead.part c) n bs) same ahead.index;
    within = omega (arith, ahead.within);
  }
    where
      same : mark ≡ mark + 1 - 1
      same = omega arith

  -- one command was made, for the opening mark
  pub took_mark : (a b : D) → mark + 1 < positions → Looks drive drive.MOST a b
      → Took drive a b (positions + 1 - mark) (λ n. (c : Cartridge) (bs : List (List ℕ)) → IsAhead drive a mark mark positions c bs → n ≤ length bs + 3)
  took_mark a b lt look = record {
    count = 1;
    looks = subst (λ (n : ℕ). Looks drive n a b) (once drive.MOST) look;
    most_is = omega (arith, lt);
    told = λ c bs ahead. omega arith;
  }
    where
      once : (k : ℕ) → k ≡ 1 * k
      once k = omega arith

  module _ (a b d : D) (lt : mark + 1 < positions) (look : Looks drive drive.MOST a b)
      (head : (at : Place) → drive.head a ≡ Some at → drive.head b ≡ Some (next at))
      (took : Took drive b d (positions - (mark + 1))
      (λ n. (c : Cartridge) (bs : List (List ℕ)) → IsAhead drive b (mark + 1) (mark + 1 - 1) positions c bs → n ≤ length bs + 1)) where
    -- that one and those of the run were made
    pub took_run : Took drive a d (positions + 1 - mark) (λ n. (c : Cartridge) (bs : List (List ℕ)) → IsAhead drive a mark mark positions c bs → n ≤ length bs + 3)
    took_run = record {
      count = took.count + 1;
      looks = subst (λ (n : ℕ). Looks drive n a d) (once took.count drive.MOST) (then_looks drive drive.MOST (took.count * drive.MOST) a b d look took.looks);
      most_is = omega (arith, lt, took.most_is);
      told = λ c bs ahead. omega (arith, took.told c bs (next_ahead a b c bs look.held head ahead));
    }
      where
        once : (n k : ℕ) → k + n * k ≡ (n + 1) * k
        once n k = omega arith

    -- these and one for the end were made
    pub took_end : (e : D) → Looks drive drive.MOST d e
        → Took drive a e (positions + 1 - mark) (λ n. (c : Cartridge) (bs : List (List ℕ)) → IsAhead drive a mark mark positions c bs → n ≤ length bs + 3)
    took_end e last = record {
      count = took.count + 2;
      looks =
          subst (λ (n : ℕ). Looks drive n a e) (twice took.count drive.MOST)
          (then_looks drive (drive.MOST + took.count * drive.MOST) drive.MOST a d e (then_looks drive drive.MOST (took.count * drive.MOST) a b d look took.looks) last);
      most_is = omega (arith, lt, took.most_is);
      told = λ c bs ahead. omega (arith, took.told c bs (next_ahead a b c bs look.held head ahead));
    }
      where
        twice : (n k : ℕ) → k + n * k + k ≡ (n + 2) * k
        twice n k = omega arith

  -- what a drive tells of the item behind the closing mark
  pub end_told : (a b d : D) (run : Run) (ends : Bool) (c : Cartridge) (bs : List (List ℕ)) (ahead : IsAhead drive a mark mark positions c bs)
      → drive.held b ≡ drive.held a → drive.held d ≡ drive.held b
      → ((at : Place) → drive.head a ≡ Some at → drive.head b ≡ Some (next at))
      → ((part : Part) → drive.head b ≡ Some (record { part = part; pos = mark + 1 }) → drive.head d ≡ Some (record { part = part; pos = run.after }))
      → ((at : Place) (c : Cartridge) → drive.head d ≡ Some at → drive.held d ≡ Some c → (ends ≡ true) ↔ (item_at at c ≡ None))
      → (ends ≡ true) ↔ (slice_get (items_of ahead.part c) run.after ≡ None)
  end_told a b d run ends c bs ahead first second head further told =
      told (record { part = ahead.part; pos = run.after }) c
      (further ahead.part (head (record { part = ahead.part; pos = mark }) ahead.head)) (second ∙ first ∙ ahead.held)

-- ---- the index with which a partition ends

ends_of : (items : List Item) (mark : ℕ) (last : IsLastFrom items mark) (document : List ℕ) (capacity : ℕ) (before : List ℕ) (found : Option Ending)
    → MatchOption found (length items ≢ mark + length last.k.blocks + 2) (IsReadToEnd items mark document last.k.blocks)
    → IfSome found (IsEnding capacity mark before document)
    → MatchOption found (¬ EndsWithLast items (indexes_of items)) (λ e. EndsAt items document e.place)
ends_of items mark last document capacity before None told any = λ ends.
    told (omega (arith, subst (EndsWithLast items) last.parts ends, last.mark_is))
ends_of items mark last document capacity before (Some e) told any = record {
  ends = subst (EndsWithLast items) (sym last.parts) (omega (arith, told.ends, last.mark_is));
  stands = ap newest last.parts ∙ ap Some place;
  document_is = subst (IsDocument document) (sym last.parts) told.text;
}
  where
    mark_is : last.k.mark ≡ e.place.mark
    mark_is = last.mark_is ∙ sym any.mark_is

    first_is : last.k.mark + 1 ≡ e.place.first
    first_is = omega (arith, mark_is, any.place.first)

    after_is : last.k.mark + length last.k.blocks + 2 ≡ e.place.after
    after_is = omega (arith, last.mark_is, told.after)

    place : places_of last.k ≡ e.place
    place = λ i. record { mark = mark_is i; first = first_is i; after = after_is i }

some_block : (ks : List readings.Construct) (k : readings.Construct) (older : List readings.Construct) → ks ≡ k ∷ older → AreOrdered ks → 1 ≤ length k.blocks
some_block ks k older are ordered = some k.blocks (subst AreOrdered are ordered).0
  where
    some : (bs : List (List ℕ)) → bs ≢ [] → 1 ≤ length bs
    some [] none = absurd (none refl)
    some (b ∷ bs) none = omega arith

-- its mark stands within the partition
pub last_within : (items : List Item) (mark : ℕ) → IsLastFrom items mark → mark ≤ length items
last_within items mark last =
    let ends = subst (λ (ks : List readings.Construct). end_dp ks ≤ length (front items)) last.parts (end_dp_within items last.long) in
    omega (arith, ends, last.mark_is, front_within items)

-- the drive's count rose, where it was the cause
pub stop_rose : (before now : ℕ) (stop : Stop) → stop ≡ stops.Drive → StopCause before now stop → Rose before now
stop_rose before now stop is cause = subst (StopCause before now) is cause

-- one command is one time the most of one
pub looks_once : {D : Type 0} (drive : Ghosts D) (a b : D) → Looks drive drive.MOST a b → Looks drive (1 * drive.MOST) a b
looks_once drive a b look = subst (λ (most : ℕ). Looks drive most a b) (once drive.MOST) look
  where
    once : (k : ℕ) → k ≡ 1 * k
    once k = omega arith

module _ {D : Type 0} (drive : Ghosts D) (start : Start) (a b d : D) (part : Part) (mark positions : ℕ) (since : IsSince drive start a)
    (range : (4 ≤ mark) × (mark + 1 < capacity part start.limits)) (known : IfSome (drive.held a) (λ c. IsLastFrom (items_of part c) mark))
    (positions_are : positions ≡ capacity part start.limits) (look : Looks drive drive.MOST a b) (head : drive.head b ≡ Some (record { part = part; pos = mark }))
    (took : Took drive b d (positions + 1 - mark)
    (λ n. (c : Cartridge) (bs : List (List ℕ)) → IsAhead drive b mark mark positions c bs → n ≤ length bs + 3)) where
  module _ (c : Cartridge) (h : drive.held a ≡ Some c) where
    last : IsLastFrom (items_of part c) mark
    last = at_told (λ c. IsLastFrom (items_of part c) mark) h known

    ahead : IsAhead drive b mark mark positions c last.k.blocks
    ahead = record {
      part = part;
      head = head;
      held = look.held ∙ h;
      index = subst (λ (n : ℕ). IsIndexAt (items_of part c) n last.k.blocks) last.mark_is (index_stands (items_of part c) [] last.k last.older last.form last.parts);
      within =
          let ends = subst (λ (ks : List readings.Construct). end_dp ks ≤ length (front (items_of part c))) last.parts (end_dp_within (items_of part c) last.long) in
          omega (
            arith,
            ends,
            last.mark_is,
            front_within (items_of part c),
            fits_count c part start.limits (at_told (FitsLimits start.limits) h since.fits),
            positions_are,
          );
    }

    few : took.count ≤ 3 + blocks_of_newest (indexes_of (items_of part c))
    few =
        let t = took.told c last.k.blocks ahead in
        subst (λ (ks : List readings.Construct). took.count ≤ 3 + blocks_of_newest ks) (sym last.parts) (omega (arith, t))

  all_looks : Looks drive ((1 + took.count) * drive.MOST) a d
  all_looks = subst (λ (most : ℕ). Looks drive most a d) (one_first took.count drive.MOST) (then_looks drive drive.MOST (took.count * drive.MOST) a b d look took.looks)
    where
      one_first : (n k : ℕ) → k + n * k ≡ (1 + n) * k
      one_first n k = omega arith

  most_is : 1 + took.count ≤ capacity part start.limits
  most_is = omega (arith, took.most_is, range.0, range.1, positions_are)

  few_all : (c : Cartridge) → drive.held a ≡ Some c → 1 + took.count ≤ 4 + blocks_of_newest (indexes_of (items_of part c))
  few_all c h = let less = few c h in omega (arith, less)

  -- the index was read, or the partition goes on
  pub ending_step : (before document : List ℕ) (found : Option Ending) → drive.faults a ≤ drive.faults d
      → ((c : Cartridge) (bs : List (List ℕ)) → (x : IsAhead drive b mark mark positions c bs) → 1 ≤ length bs
      → MatchOption found (length (items_of x.part c) ≢ mark + length bs + 2) (IsReadToEnd (items_of x.part c) mark document bs))
      → IfSome found (IsEnding positions mark before document)
      → IsStepBy drive start (capacity part start.limits) (λ c n. n ≤ 4 + blocks_of_newest (indexes_of (items_of part c))) a d
      (λ (found : Option Ending) c. MatchOption found (¬ EndsWithLast (items_of part c) (indexes_of (items_of part c)))
      (λ e. EndsAt (items_of part c) document e.place)) (λ found. IfSome found (IsEnding (capacity part start.limits) mark before document)) IsFree (Ok found)
  unfolding ahead
  ending_step before document found later told any =
      let now : start.faults ≤ drive.faults d = omega (arith, since.faults, later) in
      record {
        count = 1 + took.count;
        step = record {
          found = λ c h.
              ends_of (items_of part c) mark (last c h) document positions before found
              (told c (last c h).k.blocks (ahead c h) (some_block (indexes_of (items_of part c)) (last c h).k (last c h).older (last c h).parts (content_placed (items_of part c)).ordered))
              any;
          any = subst (λ (n : ℕ). IfSome found (IsEnding n mark before document)) positions_are any;
          refused = tt;
          counts = record { later = now; told = tt };
          looks = all_looks;
          since = since_next drive start _ a d since all_looks now;
        };
        most_is = most_is;
        by = few_all;
      }

  -- the drive failed as it was read
  pub ending_failed : {T : Type 0} {F : T → Cartridge → Type 0} {A : T → Type 0} (e : MountErr) → drive.faults a ≤ drive.faults b → drive.faults b ≤ drive.faults d
      → Rose (drive.faults b) (drive.faults d) → e ≡ errors.Drive (record { before = start.faults; after = drive.faults d })
      → IsStepBy drive start (capacity part start.limits) (λ c n. n ≤ 4 + blocks_of_newest (indexes_of (items_of part c))) a d F A IsFree (Err e)
  ending_failed e first later rose is =
      failed_by drive start most_is since all_looks (omega (arith, first, later)) (omega (arith, first, rose)) is few_all

  -- memory was refused as it was read
  pub ending_refused : {T : Type 0} {F : T → Cartridge → Type 0} {A : T → Type 0} → drive.faults a ≤ drive.faults b → drive.faults b ≤ drive.faults d
      → IsStepBy drive start (capacity part start.limits) (λ c n. n ≤ 4 + blocks_of_newest (indexes_of (items_of part c))) a d F A IsFree (Err errors.NoMemory)
  ending_refused first later =
      by_step drive start most_is (free_step drive start (omega arith) since all_looks (omega (arith, first, later)) tt (λ c. tt)) few_all
