-- What a disk that holds writes back reads, and what it keeps.
use Rattle.std.proofs.Common.{ℕ, ◌+◌, ◌-◌, ◌^◌, ◌≤◌, ◌<◌, ◌≡◌, ◌⊎◌, ⊎_elim, inl, inr, Bool, true, false, List, [], ◌++◌, length, Option, Some, None, Result, Ok, Err, refl, sym, ◌∙◌, ap, subst, arith}
use Rattle.std.specs.Prelude.{IfOk, IfSome, OnOk, if◌then◌else◌, min}
use Rattle.std.proofs.lemmas.List.{length-append}
use Rattle.std.proofs.lemmas.List.Elements.{All-append, All-nil}
use Rattle.tape_types.specs.Counts.{HasCause}
use Rattle.crash_steps.specs.Crashes.{Crashes, IsSureOf, NothingNew}
use Rattle.byte_disk.specs.Commands.{IsFileSure, IsOneMore, WithinWrite}
use Rattle.byte_disk.specs.Files.{AfterWrite, AreBytes, AreFiles, Files, IsBroken, IsWritten, bytes_at, bytes_of, told, written}
use Rattle.byte_disk.specs.Record.{is_same}
use Rattle.byte_disk.specs.declared.disk.ByteDisk.{Ghosts}
use Rattle.byte_disk.specs.declared.disk.File.{File}
use Rattle.byte_disk.proofs.Acts.{any_same}
use Rattle.byte_disk.proofs.Told.{are_told, sure_told, told_only}
use Rattle.byte_disk.proofs.Written.{length_written}
use Rattle.own_count.specs.Own.{AreReached}
use Rattle.own_count.proofs.Counting.{reached_over}
use Rattle.own_count.proofs.Running.{runs_behind, runs_none, runs_wider}
use Rattle.disk_layers.specs.declared.known.Known.{Known}
use Rattle.disk_layers.specs.Held.{AreSure, Follow, HeldFirst, HeldOn, IsClear, IsFit, IsKept, LooksOver, PutIf, PutsOver, Run, StaysOver, View}
use Rattle.disk_layers.specs.Held.{WrittenOut, emptied, held_of, held_over, is_known, leaves_of, length_over, longer, moment, overlaid}
use Rattle.disk_layers.specs.Layers.{IsCounted, commands_of, since_of}
use Rattle.disk_layers.proofs.Overlaid.{clear_bytes, clear_within, file_cases, other_stays, over_broken, over_files, over_first, over_length, over_longer, over_none, over_written, same_file}
use Rattle.disk_layers.proofs.Steps.{narrow, runs_first, runs_looking, runs_on, runs_out, runs_through}

module _ {D : Type 0} (disk : Ghosts D) (law : (b : D) (d : Files) → disk.held b ≡ Some d → AreFiles d) where
  -- ---- what it tells
  pub held_some : (m : Run × D) (d : Files) → IsFit disk m → disk.held m.1 ≡ Some d → held_of disk m ≡ Some (overlaid m.0 d)
  held_some m d fit is = ap (held_over m.0) is ∙ are_told (overlaid m.0 d) (over_files m.0 d fit.bytes (law m.1 d is))

  held_untold : (m : Run × D) → disk.held m.1 ≡ None → held_of disk m ≡ None
  held_untold m is = ap (held_over m.0) is

  pub held_only : (m : Run × D) (c : Files) → held_of disk m ≡ Some c → (d : Files) × (disk.held m.1 ≡ Some d) × (c ≡ overlaid m.0 d)
  held_only m c is = by (disk.held m.1) refl where
    by : (o : Option Files) → disk.held m.1 ≡ o → (d : Files) × (disk.held m.1 ≡ Some d) × (c ≡ overlaid m.0 d)
    by None none = absurd (cc (is, held_untold m none))
    by (Some d) some = (d, some, sym (told_only (overlaid m.0 d) c (sym (ap (held_over m.0) some) ∙ is)))

  pub held_none : (m : Run × D) → IsFit disk m → held_of disk m ≡ None → disk.held m.1 ≡ None
  held_none m fit is = by (disk.held m.1) refl where
    by : (o : Option Files) → disk.held m.1 ≡ o → disk.held m.1 ≡ None
    by None none = none
    by (Some d) some = absurd (cc (is, held_some m d fit some))

  -- what is asked of the files as it tells them is asked of those inside
  pub asked : (P Q : Files → Type 0) (m : Run × D) → IsFit disk m → ((d : Files) → disk.held m.1 ≡ Some d → P (overlaid m.0 d) → Q d)
      → IfSome (held_of disk m) P → IfSome (disk.held m.1) Q
  asked P Q m fit of is = by (disk.held m.1) refl where
    by : (o : Option Files) → disk.held m.1 ≡ o → IfSome o Q
    by None none = tt
    by (Some d) some = of d some (subst (λ (o : Option Files). IfSome o P) (held_some m d fit some) is)

  pub asked_of : (P : Files → Type 0) (m : Run × D) (d : Files) → IsFit disk m → IfSome (held_of disk m) P → disk.held m.1 ≡ Some d → P (overlaid m.0 d)
  asked_of P m d fit is some = subst (λ (o : Option Files). IfSome o P) (held_some m d fit some) is

  -- a place in a file as it reads lies in the file inside, while nothing is held
  pub inside_of : (m : Run × D) (d : Files) (file : File) (at : ℕ) → m.0.bytes ≡ [] → IsFit disk m
      → IfSome (held_of disk m) (λ (x : Files). at ≤ length (bytes_of file x)) → disk.held m.1 ≡ Some d → at ≤ length (bytes_of file d)
  inside_of m d file at none fit within is =
      subst (λ (x : Files). at ≤ length (bytes_of file x)) (over_none m.0 d none)
      (asked_of (λ (x : Files). at ≤ length (bytes_of file x)) m d fit within is)

  -- the length of a file
  pub length_is : (n : ℕ) (m : Run × D) (file : File) → IsFit disk m
      → ((d : Files) → disk.held m.1 ≡ Some d → n ≡ length (bytes_of file d))
      → (c : Files) → held_of disk m ≡ Some c → length_over m.0 file n ≡ length (bytes_of file c)
  length_is n m file fit is c told =
      let d = held_only m c told in
      ap (λ (k : ℕ). length_over m.0 file k) (is d.0 d.1) ∙ sym (over_length m.0 file d.0 (fit.within d.0 d.1))
      ∙ ap (λ (x : Files). length (bytes_of file x)) (sym d.2)

  -- bytes that are read inside
  pub read_is : {T E : Type 0} (result : Result T E) (m : Run × D) (file : File) (at n : ℕ) (buf : List ℕ) → IsFit disk m → IsClear m.0 file (at + n)
      → ((d : Files) → disk.held m.1 ≡ Some d → OnOk result (buf ≡ bytes_at at n (bytes_of file d)))
      → (c : Files) → held_of disk m ≡ Some c → OnOk result (buf ≡ bytes_at at n (bytes_of file c))
  read_is (Ok x) m file at n buf fit clear is c told =
      let d = held_only m c told in
      is d.0 d.1 ∙ sym (clear_bytes m.0 file at n d.0 clear (fit.within d.0 d.1)) ∙ ap (λ (y : Files). bytes_at at n (bytes_of file y)) (sym d.2)
  read_is (Err e) m file at n buf fit clear is c told = tt

  -- ---- what stays fit
  pub fit_same : (r : Run) (a b : D) → disk.held b ≡ disk.held a → IsFit disk (r, a) → IsFit disk (r, b)
  fit_same r a b held fit = record { bytes = fit.bytes; end = fit.end; within = λ d is. fit.within d (sym held ∙ is) }

  -- a write leaves each file at least as long
  grows : {T E : Type 0} (result : Result T E) (file f : File) (at : ℕ) (bytes : List ℕ) (d e : Files) → at ≤ length (bytes_of file d)
      → AfterWrite result file at bytes d e → length (bytes_of f d) ≤ length (bytes_of f e)
  grows {T = T} {E = E} result file f at bytes d e within after = ⊎_elim
      (λ (same : is_same f file ≡ true).
      subst (λ (g : File). length (bytes_of g d) ≤ length (bytes_of g e)) (sym (same_file f file same)) (own result after))
      (λ (apart : is_same f file ≡ false). other result after apart)
      (file_cases f file)
    where
      own : (result : Result T E) → AfterWrite result file at bytes d e → length (bytes_of file d) ≤ length (bytes_of file e)
      own (Ok x) after =
          let longer : length (bytes_of file e) ≡ length (written at bytes (bytes_of file d)) = ap length after.put in
          omega (arith, longer, length_written at bytes (bytes_of file d) within)
      own (Err x) after = after.any.no_shorter

      other : (result : Result T E) → AfterWrite result file at bytes d e → is_same f file ≡ false → length (bytes_of f d) ≤ length (bytes_of f e)
      other (Ok x) after apart = let same : length (bytes_of f e) ≡ length (bytes_of f d) = ap length (other_stays file f d e apart after.others) in omega (arith, same)
      other (Err x) after apart = let same : length (bytes_of f e) ≡ length (bytes_of f d) = ap length (other_stays file f d e apart after.others) in omega (arith, same)

  module _ {T E : Type 0} (result : Result T E) (file : File) (at : ℕ) (bytes : List ℕ) (a b : D)
      (told_is : (d : Files) → disk.held a ≡ Some d → (e : Files) × (disk.held b ≡ Some e) × AfterWrite result file at bytes d e)
      (untold_is : disk.held a ≡ None → disk.held b ≡ None) where
    -- what stood inside before a write
    before_write : (e : Files) → disk.held b ≡ Some e → (d : Files) × (disk.held a ≡ Some d) × AfterWrite result file at bytes d e
    before_write e is = by (disk.held a) refl where
      by : (o : Option Files) → disk.held a ≡ o → (d : Files) × (disk.held a ≡ Some d) × AfterWrite result file at bytes d e
      by None none = absurd (cc (is, untold_is none))
      by (Some d) some =
          let t = told_is d some in
          let same : t.0 ≡ e = cc (t.1, is) in
          (d, some, subst (λ (x : Files). AfterWrite result file at bytes d x) same t.2)

    -- a run that no bytes were put into
    pub fit_written : (r s : Run) → ((d : Files) → disk.held a ≡ Some d → at ≤ length (bytes_of file d)) → IsFit disk (r, a)
        → s.file ≡ r.file → s.from ≡ r.from → (s.bytes ≡ []) ⊎ (s ≡ r) → IsFit disk (s, b)
    fit_written r s within fit file_is from_is bytes_is = record {
      bytes = ⊎_elim
          (λ (none : s.bytes ≡ []). subst (λ (l : List ℕ). AreBytes l) (sym none) (All-nil (λ (x : ℕ). x < 2 ^ 8)))
          (λ (same : s ≡ r). subst (λ (q : Run). AreBytes q.bytes) (sym same) fit.bytes)
          bytes_is;
      end = ⊎_elim
          (λ (none : s.bytes ≡ []). let empty : length s.bytes ≡ length {A = ℕ} [] = ap length none in omega (arith, empty, from_is, fit.end))
          (λ (same : s ≡ r). subst (λ (q : Run). q.from + length q.bytes < 2 ^ 62) (sym same) fit.end)
          bytes_is;
      within = λ e is.
          let d = before_write e is in
          let low : r.from ≤ length (bytes_of r.file d.0) = fit.within d.0 d.1 in
          let more = grows result file r.file at bytes d.0 e (within d.0 d.1) d.2 in
          let here : s.from ≤ length (bytes_of r.file e) = omega (arith, low, more, from_is) in
          subst (λ (f : File). s.from ≤ length (bytes_of f e)) (sym file_is) here;
    }

    -- the other files are as durable as they were
    pub sure_written : (old new : Known) → ((f : File) → is_known f new ≡ (if is_same f file then false else is_known f old))
        → Crashes (WithinWrite file at (length bytes)) (disk.commands a) (disk.leaves a) (disk.leaves b) (disk.left_since a) (disk.left_since b)
        → AreSure disk old a → AreSure disk new b
    sure_written old new forgot crash sure f known = ⊎_elim
        (λ (same : is_same f file ≡ true).
        absurd (cc (known, forgot f, ap (λ (t : Bool). if t then false else is_known f old) same)))
        (λ (apart : is_same f file ≡ false).
        beside apart (sym (forgot f ∙ ap (λ (t : Bool). if t then false else is_known f old) apart) ∙ known))
        (file_cases f file)
      where
        beside : is_same f file ≡ false → is_known f old ≡ true → IsFileSure f (disk.held b) (disk.leaves b)
        beside apart known_f = by (disk.held b) refl where
          by : (o : Option Files) → disk.held b ≡ o → IsFileSure f o (disk.leaves b)
          by None none = tt
          by (Some e) some = λ image left.
              let d = before_write e some in
              let was = crash.now image left in
              let first : bytes_of f was.0 ≡ bytes_of f d.0 =
              subst (λ (o : Option Files). IsFileSure f o (disk.leaves a)) d.1 (sure f known_f) was.0 was.1 in
              other_stays file f was.0 image apart was.2.others ∙ first ∙ sym (stays d.0 result d.2)
            where
              stays : (d : Files) (result : Result T E) → AfterWrite result file at bytes d e → bytes_of f e ≡ bytes_of f d
              stays d (Ok x) after = other_stays file f d e apart after.others
              stays d (Err x) after = other_stays file f d e apart after.others

  -- a command that only looks leaves them durable
  pub sure_looked : (known : Known) (a b : D) → disk.held b ≡ disk.held a
      → Crashes NothingNew (disk.commands a) (disk.leaves a) (disk.leaves b) (disk.left_since a) (disk.left_since b)
      → AreSure disk known a → AreSure disk known b
  sure_looked known a b held crash sure f holds = file_looked f a b held crash (sure f holds)
    where
      file_looked : (f : File) (a b : D) → disk.held b ≡ disk.held a
          → Crashes NothingNew (disk.commands a) (disk.leaves a) (disk.leaves b) (disk.left_since a) (disk.left_since b)
          → IsFileSure f (disk.held a) (disk.leaves a) → IsFileSure f (disk.held b) (disk.leaves b)
      file_looked f a b held crash sure = subst (λ (o : Option Files). IsFileSure f o (disk.leaves b)) (sym held) (by (disk.held a) sure) where
        by : (o : Option Files) → IsFileSure f o (disk.leaves a) → IsFileSure f o (disk.leaves b)
        by None none = tt
        by (Some d) sure = λ image left. let was = crash.now image left in ap (bytes_of f) was.2 ∙ sure was.0 was.1

  pub sure_synced : (old new : Known) (file : File) (a b : D) → disk.held b ≡ disk.held a
      → Crashes NothingNew (disk.commands a) (disk.leaves a) (disk.leaves b) (disk.left_since a) (disk.left_since b)
      → ((f : File) → is_known f new ≡ (if is_same f file then true else is_known f old))
      → IsFileSure file (disk.held b) (disk.leaves b) → AreSure disk old a → AreSure disk new b
  sure_synced old new file a b held crash noted now sure f known = ⊎_elim
      (λ (same : is_same f file ≡ true). subst (λ (g : File). IsFileSure g (disk.held b) (disk.leaves b)) (sym (same_file f file same)) now)
      (λ (apart : is_same f file ≡ false).
      sure_looked old a b held crash sure f (sym (noted f ∙ ap (λ (t : Bool). if t then true else is_known f old) apart) ∙ known))
      (file_cases f file)

  -- a file that is durable inside is durable, while nothing is held
  pub sure_over : (file : File) (m : Run × D) → m.0.bytes ≡ [] → IsFileSure file (disk.held m.1) (disk.leaves m.1)
      → IsFileSure file (held_of disk m) (leaves_of disk m)
  sure_over file m none sure = by (disk.held m.1) sure where
    by : (o : Option Files) → IsFileSure file o (disk.leaves m.1) → IsFileSure file (held_over m.0 o) (leaves_of disk m)
    by None sure = tt
    by (Some d) sure = sure_told (bytes_of file) (overlaid m.0 d) (leaves_of disk m) (λ image left.
        ap (bytes_of file) (narrow m.0 left.0 image none left.2) ∙ sure left.0 left.1 ∙ ap (bytes_of file) (sym (over_none m.0 d none)))

  -- ---- the steps
  pub looks_inside : {T E : Type 0} (result : Result T E) (r : Run) (a b : D) → disk.held b ≡ disk.held a
      → IsOneMore (disk.commands a) (disk.commands b) → HasCause (disk.faults a) (disk.faults b) result
      → Crashes NothingNew (disk.commands a) (disk.leaves a) (disk.leaves b) (disk.left_since a) (disk.left_since b)
      → LooksOver disk result (r, a) (r, b)
  looks_inside result r a b held more cause crash = record {
    held = ap (held_over r) held;
    runs = runs_looking disk r a b more crash;
    cause = cause;
  }

  pub looks_inside_well : {T E : Type 0} (x : T) (r : Run) (a b : D) → disk.held b ≡ disk.held a
      → IsOneMore (disk.commands a) (disk.commands b) → disk.faults a ≤ disk.faults b
      → Crashes NothingNew (disk.commands a) (disk.leaves a) (disk.leaves b) (disk.left_since a) (disk.left_since b)
      → LooksOver {T = T} {E = E} disk (Ok x) (r, a) (r, b)
  looks_inside_well x r a b held more later crash = looks_inside (Ok x) r a b held more (record { later = later; failed = tt }) crash

  pub looks_none : {T E : Type 0} (x : T) (m : Run × D) → LooksOver {T = T} {E = E} disk (Ok x) m m
  looks_none x m = record {
    held = refl;
    runs = runs_none (commands_of disk) (leaves_of disk) (since_of disk) m (λ image. refl);
    cause = record { later = omega arith; failed = tt };
  }

  pub looks_behind : {T S E : Type 0} (first : Result T E) (second : Result S E) (a b c : Run × D) → LooksOver disk first a b → LooksOver disk second b c
      → LooksOver disk second a c
  looks_behind {S = S} {E = E} first second a b c one two = record {
    held = two.held ∙ one.held;
    runs = runs_behind (commands_of disk) (leaves_of disk) (since_of disk) a b c (λ image. refl) one.runs two.runs;
    cause = caused second one.cause.later two.cause;
  }
    where
      caused : (second : Result S E) → disk.faults a.1 ≤ disk.faults b.1 → HasCause (disk.faults b.1) (disk.faults c.1) second
          → HasCause (disk.faults a.1) (disk.faults c.1) second
      caused (Ok x) le cause = record { later = omega (arith, le, cause.later); failed = tt }
      caused (Err e) le cause = record { later = omega (arith, le, cause.later); failed = omega (arith, le, cause.failed) }

  pub puts_behind : {T S E : Type 0} (first : Result T E) (second : Result S E) (file : File) (at : ℕ) (bytes : List ℕ) (a b c : Run × D)
      → LooksOver disk first a b → PutsOver disk second file at bytes b c → PutsOver disk second file at bytes a c
  puts_behind {S = S} {E = E} first second file at bytes a b c one two = record {
    told = λ d is. two.told d (one.held ∙ is);
    untold = λ none. two.untold (one.held ∙ none);
    runs = runs_behind (commands_of disk) (leaves_of disk) (since_of disk) a b c (λ image. any_same file at (length bytes) image) one.runs two.runs;
    cause = caused second one.cause.later two.cause;
  }
    where
      caused : (second : Result S E) → disk.faults a.1 ≤ disk.faults b.1 → HasCause (disk.faults b.1) (disk.faults c.1) second
          → HasCause (disk.faults a.1) (disk.faults c.1) second
      caused (Ok x) le cause = record { later = omega (arith, le, cause.later); failed = tt }
      caused (Err e) le cause = record { later = omega (arith, le, cause.later); failed = omega (arith, le, cause.failed) }

  -- nothing was put, since what was held couldn't be written out
  pub puts_not : {T S E : Type 0} (e : E) (file : File) (at : ℕ) (bytes : List ℕ) (a b : Run × D) → LooksOver {T = T} {E = E} disk (Err e) a b
      → PutsOver {T = S} {E = E} disk (Err e) file at bytes a b
  puts_not e file at bytes a b one = record {
    told = λ d is. (d, one.held ∙ is, any_same file at (length bytes) d);
    untold = λ none. one.held ∙ none;
    runs = runs_wider (commands_of disk) (leaves_of disk) (since_of disk) a b
        (λ x y same. subst (λ (z : Files). WithinWrite file at (length bytes) x z) (sym same) (any_same file at (length bytes) x)) one.runs;
    cause = record { later = one.cause.later; failed = one.cause.failed };
  }

  -- a run is written out, or was to be
  pub looks_out : {T E : Type 0} (result : Result T E) (r s : Run) (a b : D) → IsFit disk (r, a) → 1 ≤ length r.bytes → WrittenOut result r s
      → ((d : Files) → disk.held a ≡ Some d → (e : Files) × (disk.held b ≡ Some e) × AfterWrite result r.file r.from r.bytes d e)
      → (disk.held a ≡ None → disk.held b ≡ None) → IsOneMore (disk.commands a) (disk.commands b) → HasCause (disk.faults a) (disk.faults b) result
      → Crashes (WithinWrite r.file r.from (length r.bytes)) (disk.commands a) (disk.leaves a) (disk.leaves b) (disk.left_since a) (disk.left_since b)
      → LooksOver disk result (r, a) (s, b)
  looks_out {T = T} {E = E} result r s a b fit some out told_is untold_is more cause crash = record {
    held = by (disk.held a) refl;
    runs = runs_out disk r a b some more crash result s out;
    cause = cause;
  }
    where
      reads : (result : Result T E) (d e : Files) → disk.held a ≡ Some d → WrittenOut result r s → AfterWrite result r.file r.from r.bytes d e
          → overlaid s e ≡ overlaid r d
      reads (Ok x) d e is out after =
          ap (λ (q : Run). overlaid q e) out ∙ over_none (emptied r) e refl ∙ over_written r d e after
      reads (Err x) d e is out after = ap (λ (q : Run). overlaid q e) out ∙ over_broken r d e (fit.within d is) after

      by : (o : Option Files) → disk.held a ≡ o → held_of disk (s, b) ≡ held_of disk (r, a)
      by None none = held_untold (s, b) (untold_is none) ∙ sym (held_untold (r, a) none)
      by (Some d) is =
          let t = told_is d is in
          ap (held_over s) t.1 ∙ ap told (reads result d t.0 is out t.2) ∙ sym (ap (held_over r) is)

  -- bytes are held behind those of a run
  pub puts_on : {E : Type 0} (r s : Run) (b : D) (file : File) (at : ℕ) (more : List ℕ) → IsFit disk (r, b) → IsFit disk (s, b)
      → Follow r file at → s ≡ longer more r → PutsOver {T = Unit {0}} {E = E} disk (Ok tt) file at more (r, b) (s, b)
  puts_on {E = E} r s b file at more fit new follow is =
      subst (λ (q : Run). PutsOver {T = Unit {0}} {E = E} disk (Ok tt) file at more (r, b) (q, b)) (sym is)
      (subst (λ (f : File). PutsOver {T = Unit {0}} {E = E} disk (Ok tt) f at more (r, b) (longer more r, b)) (sym follow.file_is)
      (subst (λ (k : ℕ). PutsOver {T = Unit {0}} {E = E} disk (Ok tt) r.file k more (r, b) (longer more r, b)) (sym follow.at_is) (record {
        told = λ c told_is.
            let d = held_only (r, b) c told_is in (
              overlaid (longer more r) d.0,
              held_some (longer more r, b) d.0 (subst (λ (q : Run). IsFit disk (q, b)) is new) d.1,
              subst (λ (x : Files). IsWritten r.file (r.from + length r.bytes) more x (overlaid (longer more r) d.0)) (sym d.2)
                  (over_longer r more d.0 (fit.within d.0 d.1)),
            );
        untold = λ none. held_untold (longer more r, b) (held_none (r, b) fit none);
        runs = runs_on disk r more b follow.some;
        cause = record { later = omega arith; failed = tt };
      })))

  -- they are held as the first ones
  pub puts_first : {E : Type 0} (r s : Run) (b : D) (file : File) (at : ℕ) (more : List ℕ) → IsFit disk (r, b) → IsFit disk (s, b)
      → r.bytes ≡ [] → s ≡ (record { file = file; from = at; bytes = more }) → PutsOver {T = Unit {0}} {E = E} disk (Ok tt) file at more (r, b) (s, b)
  puts_first {E = E} r s b file at more fit new none is =
      let held : Run = record { file = file; from = at; bytes = more } in
      subst (λ (q : Run). PutsOver {T = Unit {0}} {E = E} disk (Ok tt) file at more (r, b) (q, b)) (sym is) (record {
        told = λ c told_is.
            let d = held_only (r, b) c told_is in (
              overlaid held d.0,
              held_some (held, b) d.0 (subst (λ (q : Run). IsFit disk (q, b)) is new) d.1,
              subst (λ (x : Files). IsWritten file at more x (overlaid held d.0)) (sym (d.2 ∙ over_none r d.0 none)) (over_first file at more d.0),
            );
        untold = λ nothing. held_untold (held, b) (held_none (r, b) fit nothing);
        runs = runs_first disk r file at more b;
        cause = record { later = omega arith; failed = tt };
      })

  -- they are written, while nothing is held
  pub puts_through : {T E : Type 0} (result : Result T E) (r : Run) (a b : D) (file : File) (at : ℕ) (bytes : List ℕ) → IsFit disk (r, a) → IsFit disk (r, b)
      → r.bytes ≡ []
      → ((d : Files) → disk.held a ≡ Some d → (e : Files) × (disk.held b ≡ Some e) × AfterWrite result file at bytes d e)
      → (disk.held a ≡ None → disk.held b ≡ None) → IsOneMore (disk.commands a) (disk.commands b) → HasCause (disk.faults a) (disk.faults b) result
      → Crashes (WithinWrite file at (length bytes)) (disk.commands a) (disk.leaves a) (disk.leaves b) (disk.left_since a) (disk.left_since b)
      → PutsOver disk result file at bytes (r, a) (r, b)
  puts_through result r a b file at bytes fit new none told_is untold_is more cause crash = record {
    told = λ c is.
        let d = held_only (r, a) c is in
        let t = told_is d.0 d.1 in (
          t.0,
          held_some (r, b) t.0 new t.1 ∙ ap (λ (x : Files). Some x) (over_none r t.0 none),
          subst (λ (x : Files). AfterWrite result file at bytes x t.0) (sym (d.2 ∙ over_none r d.0 none)) t.2,
        );
    untold = λ nothing. held_untold (r, b) (untold_is (held_none (r, a) fit nothing));
    runs = runs_through disk r file at (length bytes) a b none more crash;
    cause = cause;
  }

  -- ---- what is kept
  pub kept : (a b : D) (r s : Run) (old new : Known) (n : ℕ) (past : List (Run × D))
      → IsKept disk (record { disk = a; run = r; known = old; commands = n; past = past }) → disk.commands a ≤ disk.commands b
      → IsFit disk (s, b) → AreSure disk new b → IsKept disk (record { disk = b; run = s; known = new; commands = n; past = past })
  kept a b r s old new n past was later fit sure = record {
    counted = record {
      counted = was.counted.counted;
      reached = reached_from past was.counted.reached;
    };
    fit = fit;
    sure = sure;
  }
    where
      reached_from : (past : List (Run × D)) → AreReached (commands_of disk) past (r, a) → AreReached (commands_of disk) past (s, b)
      reached_from past are = reached_over (commands_of disk) past (r, a) (s, b) later are

  -- a run that was written out, or was to be
  out_parts : {T E : Type 0} (result : Result T E) (r s : Run) → WrittenOut result r s
      → (s.file ≡ r.file) × (s.from ≡ r.from) × ((s.bytes ≡ []) ⊎ (s ≡ r))
  out_parts (Ok x) r s is = (ap (λ (q : Run). q.file) is, ap (λ (q : Run). q.from) is, inl (ap (λ (q : Run). q.bytes) is))
  out_parts (Err e) r s is = (ap (λ (q : Run). q.file) is, ap (λ (q : Run). q.from) is, inr is)

  pub out_none : {T E : Type 0} (result : Result T E) (r s : Run) → WrittenOut result r s → OnOk result (s.bytes ≡ [])
  out_none (Ok x) r s is = ap (λ (q : Run). q.bytes) is
  out_none (Err e) r s is = tt

  pub kept_out : {T E : Type 0} (result : Result T E) (a b : D) (r s : Run) (old new : Known) (n : ℕ) (past : List (Run × D)) (file : File)
      → IsKept disk (record { disk = a; run = r; known = old; commands = n; past = past }) → file ≡ r.file
      → ((f : File) → is_known f new ≡ (if is_same f file then false else is_known f old)) → WrittenOut result r s
      → ((d : Files) → disk.held a ≡ Some d → (e : Files) × (disk.held b ≡ Some e) × AfterWrite result r.file r.from r.bytes d e)
      → (disk.held a ≡ None → disk.held b ≡ None) → IsOneMore (disk.commands a) (disk.commands b)
      → Crashes (WithinWrite r.file r.from (length r.bytes)) (disk.commands a) (disk.leaves a) (disk.leaves b) (disk.left_since a) (disk.left_since b)
      → IsKept disk (record { disk = b; run = s; known = new; commands = n; past = past })
  kept_out result a b r s old new n past file was of forgot out told_is untold_is more crash =
      let parts = out_parts result r s out in
      kept a b r s old new n past was (omega (arith, more.in_range, more.one_more))
      (fit_written result r.file r.from r.bytes a b told_is untold_is r s was.fit.within was.fit parts.0 parts.1 parts.2)
      (sure_written result r.file r.from r.bytes a b told_is untold_is old new
      (subst (λ (g : File). (f : File) → is_known f new ≡ (if is_same f g then false else is_known f old)) of forgot) crash was.sure)

  -- bytes are held behind those of a run
  pub fit_on : (t : Bool) (r s : Run) (b : D) (file : File) (at : ℕ) (more : List ℕ) → HeldOn t file at more r s → AreBytes more → at + length more < 2 ^ 62
      → IsFit disk (r, b) → IsFit disk (s, b)
  fit_on true r s b file at more is are end fit =
      let place : at ≡ r.from + length r.bytes = is.0.at_is in
      subst (λ (q : Run). IsFit disk (q, b)) (sym is.1) (record {
        bytes = All-append (λ (x : ℕ). x < 2 ^ 8) r.bytes more fit.bytes are;
        end = omega (arith, length-append r.bytes more, place, end);
        within = λ d held. fit.within d held;
      })
  fit_on false r s b file at more is are end fit = subst (λ (q : Run). IsFit disk (q, b)) (sym is) fit

  pub put_on : (t : Bool) (r s : Run) (b : D) (file : File) (at : ℕ) (more : List ℕ) → HeldOn t file at more r s → AreBytes more → at + length more < 2 ^ 62
      → IsFit disk (r, b) → PutIf disk t file at more (r, b) (s, b)
  put_on true r s b file at more is are end fit = puts_on r s b file at more fit (fit_on true r s b file at more is are end fit) is.0 is.1
  put_on false r s b file at more is are end fit = ap (λ (q : Run). (q, b)) is

  -- bytes are held as the first ones
  pub fit_first : (t : Bool) (r s : Run) (b : D) (file : File) (at : ℕ) (more : List ℕ) → HeldFirst t file at more r s → AreBytes more → at + length more < 2 ^ 62
      → IfSome (held_of disk (r, b)) (λ (d : Files). at ≤ length (bytes_of file d)) → r.bytes ≡ [] → IsFit disk (r, b) → IsFit disk (s, b)
  fit_first true r s b file at more is are end within none fit = subst (λ (q : Run). IsFit disk (q, b)) (sym is) (record {
    bytes = are;
    end = end;
    within = λ d held. inside_of (r, b) d file at none fit within held;
  })
  fit_first false r s b file at more is are end within none fit = subst (λ (q : Run). IsFit disk (q, b)) (sym is) fit

  pub put_at_first : (t : Bool) (r s : Run) (b : D) (file : File) (at : ℕ) (more : List ℕ) → HeldFirst t file at more r s → AreBytes more → at + length more < 2 ^ 62
      → IfSome (held_of disk (r, b)) (λ (d : Files). at ≤ length (bytes_of file d)) → r.bytes ≡ [] → IsFit disk (r, b)
      → PutIf disk t file at more (r, b) (s, b)
  put_at_first true r s b file at more is are end within none fit =
      puts_first r s b file at more fit (fit_first true r s b file at more is are end within none fit) none is
  put_at_first false r s b file at more is are end within none fit = ap (λ (q : Run). (q, b)) is

  -- bytes are written, while nothing is held
  pub kept_through : {T E : Type 0} (result : Result T E) (a b : D) (r : Run) (old new : Known) (n : ℕ) (past : List (Run × D)) (file : File) (at : ℕ) (bytes : List ℕ)
      → IsKept disk (record { disk = a; run = r; known = old; commands = n; past = past }) → r.bytes ≡ []
      → IfSome (held_of disk (r, a)) (λ (d : Files). at ≤ length (bytes_of file d))
      → ((f : File) → is_known f new ≡ (if is_same f file then false else is_known f old))
      → ((d : Files) → disk.held a ≡ Some d → (e : Files) × (disk.held b ≡ Some e) × AfterWrite result file at bytes d e)
      → (disk.held a ≡ None → disk.held b ≡ None) → IsOneMore (disk.commands a) (disk.commands b)
      → Crashes (WithinWrite file at (length bytes)) (disk.commands a) (disk.leaves a) (disk.leaves b) (disk.left_since a) (disk.left_since b)
      → IsKept disk (record { disk = b; run = r; known = new; commands = n; past = past })
  kept_through result a b r old new n past file at bytes was none within forgot told_is untold_is more crash =
      kept a b r r old new n past was (omega (arith, more.in_range, more.one_more))
      (fit_written result file at bytes a b told_is untold_is r r (λ d is. inside_of (r, a) d file at none was.fit within is) was.fit refl refl (inr refl))
      (sure_written result file at bytes a b told_is untold_is old new forgot crash was.sure)

  -- a command inside that only looks
  pub kept_looked : (a b : D) (r : Run) (known : Known) (n : ℕ) (past : List (Run × D))
      → IsKept disk (record { disk = a; run = r; known = known; commands = n; past = past }) → disk.held b ≡ disk.held a
      → IsOneMore (disk.commands a) (disk.commands b)
      → Crashes NothingNew (disk.commands a) (disk.leaves a) (disk.leaves b) (disk.left_since a) (disk.left_since b)
      → IsKept disk (record { disk = b; run = r; known = known; commands = n; past = past })
  kept_looked a b r known n past was held more crash =
      kept a b r r known known n past was (omega (arith, more.in_range, more.one_more)) (fit_same r a b held was.fit) (sure_looked known a b held crash was.sure)
