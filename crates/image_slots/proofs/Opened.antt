-- What a value is found by, one command after another.
use Rattle.std.proofs.Common.{ℕ, ◌+◌, ◌≤◌, ◌<◌, ◌≡◌, ◌==◌, ◌&&◌, ⊎_elim, inl, inr, Bool, true, false, MatchBool, List, length, get_or, Option, Some, None, Result, Ok, Err, IfOk, IfErr, OnOk, IfSome, refl, sym, ◌∙◌, ap, subst, arith}
use Rattle.std.proofs.lemmas.Bool.{eqb-true, eqb-false}
use Rattle.std.proofs.lemmas.List.{nil_from_length, take_all}
use Rattle.tape_types.specs.Counts.{HasCause, Rose}
use Rattle.crash_steps.specs.Crashes.{NothingNew}
use Rattle.byte_disk.specs.Files.{Files, bytes_of, bytes_at}
use Rattle.byte_disk.specs.Commands.{IsOneMore, IsFileSure}
use Rattle.byte_disk.specs.declared.disk.ByteDisk.{Ghosts}
use Rattle.byte_disk.specs.declared.disk.File.{File}
use Rattle.byte_disk.specs.declared.disk.File.TheVariants as files
use Rattle.image_slots.specs.declared.errors.OpenErr.{OpenErr}
use Rattle.image_slots.specs.declared.errors.OpenErr.TheVariants.{Header, Disk}
use Rattle.image_slots.specs.declared.sides.Found.{Found}
use Rattle.image_slots.specs.declared.sides.Side.{Side}
use Rattle.image_slots.specs.declared.sides.Side.TheVariants.{First}
use Rattle.image_slots.specs.Slots.{HasValue, IsBlank, Stores, first_value}
use Rattle.image_slots.specs.Sides.{IsRead}
use Rattle.image_slots.specs.Blank.{IsMade, IsShort}
use Rattle.image_slots.specs.Calls.{AreMeasured, Finds, HasFaults, IsLook, IsMeasured, IsOpening, Opens, WithinOpen, first_header}
use Rattle.image_slots.specs.Pieces.{AreEmpty, AtMost, CrashesIn, HasFirst, IsHeaderSure, IsPiece, IsReady}
use Rattle.image_slots.proofs.Blanks.{made_counts}
use Rattle.image_slots.proofs.Chains.{both_steps, held_has, join_same, later_cause, more_at_most, no_step, old_image, one_at_most, other_step, same_files, sure_told, then_at_most, told_before, where_told}
use Rattle.image_slots.proofs.Choosing.{has_value}

-- ---- faults
disk_failed : {T U E : Type 0} {a b : ℕ} {e : E} → HasCause {T = U} a b (Err e) → HasFaults {T = T} a b (Err Disk)
disk_failed h = record { later = h.later; failed = h.failed }

then_faults : {T : Type 0} {a b c : ℕ} (r : Result T OpenErr) → a ≤ b → HasFaults b c r → HasFaults a c r
then_faults (Ok x) le h = record { later = omega (arith, le, h.later); failed = tt }
then_faults (Err Header) le h = record { later = omega (arith, le, h.later); failed = tt }
then_faults {a = a} {b = b} {c = c} (Err Disk) le h = record { later = omega (arith, le, h.later); failed = rose a b c le h.failed }
  where
    rose : (a b c : ℕ) → a ≤ b → Rose b c → Rose a c
    rose a b c le h = omega (arith, le, h)

join_open : (x y z : Files) → WithinOpen x y → WithinOpen y z → WithinOpen x z
join_open x y z h (inl same) = subst (λ (f : Files). WithinOpen x f) (sym same) h
join_open x y z (inl same) (inr made) = inr (subst (λ (f : Files). IsBlank f × (z.ip ≡ f.ip) × (z.dp ≡ f.dp) × Stores z first_value) same made)
join_open x y z (inr first) (inr made) = inr (first.0, made.1 ∙ first.1, made.2 ∙ first.2, made.3)

-- how a making ends, and what is told of it
abbrev pub IsMaking : {T E : Type 0} → Result T E → Result Found OpenErr → Type 0
IsMaking (Ok x) (Ok f) = (f.side ≡ First) × (f.value ≡ first_value) × (f.beside ≡ false)
IsMaking (Ok x) (Err why) = ⊥
IsMaking (Err e) (Ok f) = ⊥
IsMaking (Err e) (Err Header) = ⊥
IsMaking (Err e) (Err Disk) = Unit {0}

-- a read of 512 bytes is within a header of that size
pub whole_within : (o : Option Files) (n : ℕ) → n ≡ 512 → IfSome o (λ (d : Files). length d.cm ≡ 512) → IfSome o (λ (d : Files). 0 + n ≤ length (bytes_of files.Cm d))
whole_within None n e size = tt
whole_within (Some d) n e size = omega (arith, e, size)

-- a header that is measured as 512 bytes has as many
pub size_of : (o : Option Files) (n : ℕ) → n ≡ 512 → IfSome o (λ (d : Files). length d.cm ≡ n) → IfSome o (λ (d : Files). length d.cm ≡ 512)
size_of None n e size = tt
size_of (Some d) n e size = size ∙ e

-- a header that is measured as less than 512 bytes is short
pub short_size : (o : Option Files) (n : ℕ) → n < 512 → IfSome o (λ (d : Files). length d.cm ≡ n) → IfSome o (λ (d : Files). IsShort d.cm)
short_size None n less size = tt
short_size (Some d) n less size = omega (arith, less, size)

module _ {D : Type 0} (disk : Ghosts D) where
  -- ---- measuring
  pub measure_fails : {U E : Type 0} (file : File) (e : E) (a b : D) → disk.held b ≡ disk.held a → IsOneMore (disk.commands a) (disk.commands b)
      → HasCause {T = U} (disk.faults a) (disk.faults b) (Err e) → CrashesIn disk NothingNew a b → IsMeasured disk file (Err e) a b
  measure_fails file e a b held count cause crash = record {
    held = held;
    value = tt;
    sure = tt;
    crash = crash;
    count = more_at_most 1 2 (omega arith) (one_at_most count);
    cause = record { later = cause.later; failed = cause.failed };
  }

  -- a sync and a measure, one after the other, measure a sure file
  pub measured : {E : Type 0} (file : File) (r : Result ℕ E) (a b c : D) → IsFileSure file (disk.held b) (disk.leaves b) → disk.held b ≡ disk.held a
      → IsOneMore (disk.commands a) (disk.commands b) → disk.faults a ≤ disk.faults b → CrashesIn disk NothingNew a b
      → IfOk r (λ (n : ℕ). (d : Files) → disk.held b ≡ Some d → n ≡ length (bytes_of file d)) → disk.held c ≡ disk.held b
      → IsOneMore (disk.commands b) (disk.commands c) → HasCause (disk.faults b) (disk.faults c) r → CrashesIn disk NothingNew b c
      → IsMeasured disk file r a c
  measured {E} file r a b c sure held count later crash value held_2 count_2 cause crash_2 = record {
    held = held_2 ∙ held;
    value = told r value;
    sure = still r;
    crash = both_steps join_same (one_at_most count).later crash crash_2;
    count = then_at_most (one_at_most count) (one_at_most count_2);
    cause = later_cause r later cause;
  }
    where
      told : (r : Result ℕ E) → IfOk r (λ (n : ℕ). (d : Files) → disk.held b ≡ Some d → n ≡ length (bytes_of file d))
          → IfOk r (λ (n : ℕ). (d : Files) → disk.held a ≡ Some d → n ≡ length (bytes_of file d))
      told (Ok n) h = λ d is. h d (held ∙ is)
      told (Err e) h = tt

      still : (r : Result ℕ E) → OnOk r ((d image : Files) → disk.held c ≡ Some d → disk.leaves c image → bytes_of file image ≡ bytes_of file d)
      still (Ok n) = λ d image is left. sure_told file (disk.held b) (disk.leaves b) sure d image (sym held_2 ∙ is) (old_image crash_2 image left)
      still (Err e) = tt

  -- ---- both partitions' files
  pub first_fails : {E : Type 0} (e : E) (a b : D) → IsMeasured {E = E} disk files.Ip (Err e) a b → AreMeasured {E = E} disk (Err e) a b
  first_fails e a b m = record {
    held = m.held;
    value = tt;
    sure = tt;
    crash = m.crash;
    count = more_at_most 2 4 (omega arith) m.count;
    cause = record { later = m.cause.later; failed = m.cause.failed };
  }

  -- a failure to measure the second partition's file is one of both
  pub second_fails : {E : Type 0} (n : ℕ) (e : E) (a b c : D) → IsMeasured {E = E} disk files.Ip (Ok n) a b → IsMeasured {E = E} disk files.Dp (Err e) b c
      → AreMeasured {E = E} disk (Err e) a c
  second_fails n e a b c m k = record {
    held = k.held ∙ m.held;
    value = tt;
    sure = tt;
    crash = both_steps join_same m.count.later m.crash k.crash;
    count = then_at_most m.count k.count;
    cause = record { later = omega (arith, m.cause.later, k.cause.later); failed = rose _ _ _ m.cause.later k.cause.failed };
  }
    where
      rose : (x y z : ℕ) → x ≤ y → Rose y z → Rose x z
      rose x y z le h = omega (arith, le, h)

  -- both partitions' files were measured, and are empty if both lengths are 0
  pub both_measured : {E : Type 0} (n m : ℕ) (a b c : D) → IsMeasured {E = E} disk files.Ip (Ok n) a b → IsMeasured {E = E} disk files.Dp (Ok m) b c
      → AreMeasured {E = E} disk (Ok ((n == 0) && (m == 0))) a c
  both_measured n m a b c first second = record {
    held = second.held ∙ first.held;
    value = λ d is. told (n == 0) (m == 0) d refl refl (first.value d is) (second.value d (first.held ∙ is));
    sure = λ yes d image is left.
        let at_b : disk.held b ≡ Some d = sym second.held ∙ is in
        let both = both_true_of (n == 0) (m == 0) yes in
        let ip = first.value d (sym first.held ∙ at_b) in
        let dp = second.value d at_b in (
          first.sure d image at_b (old_image second.crash image left) ∙ nil_from_length d.ip (sym ip ∙ eqb-true n 0 both.0),
          second.sure d image is left ∙ nil_from_length d.dp (sym dp ∙ eqb-true m 0 both.1),
        );
    crash = both_steps join_same first.count.later first.crash second.crash;
    count = then_at_most first.count second.count;
    cause = record { later = omega (arith, first.cause.later, second.cause.later); failed = tt };
  }
    where
      told : (p q : Bool) (d : Files) → (n == 0) ≡ p → (m == 0) ≡ q → n ≡ length d.ip → m ≡ length d.dp
          → MatchBool (p && q) (AreEmpty d.ip d.dp) (¬ (AreEmpty d.ip d.dp))
      told true true d ep eq ip dp = (nil_from_length d.ip (sym ip ∙ eqb-true n 0 ep), nil_from_length d.dp (sym dp ∙ eqb-true m 0 eq))
      told true false d ep eq ip dp = λ (empty : AreEmpty d.ip d.dp). eqb-false m 0 eq (dp ∙ ap (λ (l : List ℕ). length l) empty.1)
      told false q d ep eq ip dp = λ (empty : AreEmpty d.ip d.dp). eqb-false n 0 ep (ip ∙ ap (λ (l : List ℕ). length l) empty.0)

      both_true_of : (p q : Bool) → (p && q) ≡ true → (p ≡ true) × (q ≡ true)
      both_true_of true true e = (refl, refl)
      both_true_of true false e = absurd (cc e)
      both_true_of false q e = absurd (cc e)

  -- ---- a header of 512 bytes is read
  pub look_fails : {U E : Type 0} (e : E) (a b : D) → disk.held b ≡ disk.held a → IsOneMore (disk.commands a) (disk.commands b)
      → HasCause {T = U} (disk.faults a) (disk.faults b) (Err e) → CrashesIn disk NothingNew a b → IsLook disk 1 (Err Disk) a b
  look_fails e a b held count cause crash = record {
    held = held;
    finds = λ d is. tt;
    crash = crash;
    count = one_at_most count;
    faults = disk_failed cause;
  }

  -- a header that was read is looked through for its value
  pub looked : (end : Result Found OpenErr) (header : List ℕ) (a b : D) → IfSome (disk.held a) (λ (d : Files). length d.cm ≡ 512)
      → ((d : Files) → disk.held a ≡ Some d → header ≡ bytes_at 0 512 d.cm) → disk.held b ≡ disk.held a → IsOneMore (disk.commands a) (disk.commands b)
      → disk.faults a ≤ disk.faults b → CrashesIn disk NothingNew a b → Finds end header → IfErr end (λ why. why ≡ Header) → IsLook disk 1 end a b
  looked end header a b size value held count later crash finds only = record {
    held = held;
    finds = λ d is.
        let whole : header ≡ d.cm = value d is ∙ take_all 512 d.cm (omega (arith, held_has (disk.held a) (λ (f : Files). length f.cm ≡ 512) size d is)) in
        subst (λ (l : List ℕ). Finds end l) whole finds;
    crash = crash;
    count = one_at_most count;
    faults = by end only;
  }
    where
      by : (end : Result Found OpenErr) → IfErr end (λ why. why ≡ Header) → HasFaults (disk.faults a) (disk.faults b) end
      by (Ok f) h = record { later = later; failed = tt }
      by (Err Header) h = record { later = later; failed = tt }
      by (Err Disk) h = absurd (cc h)

  -- a sync before it
  pub settled : (end : Result Found OpenErr) (a b c : D) → disk.held b ≡ disk.held a → IsOneMore (disk.commands a) (disk.commands b)
      → disk.faults a ≤ disk.faults b → CrashesIn disk NothingNew a b → IsLook disk 1 end b c → IsLook disk 2 end a c
  settled end a b c held count later crash look = record {
    held = look.held ∙ held;
    finds = λ d is. look.finds d (held ∙ is);
    crash = both_steps join_same (one_at_most count).later crash look.crash;
    count = then_at_most (one_at_most count) look.count;
    faults = then_faults end later look.faults;
  }

  -- a failure to sync the header is one of the disk
  pub settle_fails : {U E : Type 0} (e : E) (a b : D) → disk.held b ≡ disk.held a → IsOneMore (disk.commands a) (disk.commands b)
      → HasCause {T = U} (disk.faults a) (disk.faults b) (Err e) → CrashesIn disk NothingNew a b → IsLook disk 2 (Err Disk) a b
  settle_fails e a b held count cause crash = record {
    held = held;
    finds = λ d is. tt;
    crash = crash;
    count = more_at_most 1 2 (omega arith) (one_at_most count);
    faults = disk_failed cause;
  }

  -- a value found in a synced header is sure
  pub settled_sure : (end : Result Found OpenErr) (b c : D) → IsFileSure files.Cm (disk.held b) (disk.leaves b) → IsLook disk 1 end b c
      → OnOk end (IsHeaderSure disk c)
  settled_sure (Err e) b c sure look = tt
  settled_sure (Ok f) b c sure look = λ d image is left.
      sure_told files.Cm (disk.held b) (disk.leaves b) sure d image (sym look.held ∙ is) (old_image look.crash image left)

  -- the header is as long as was measured
  pub measured_size : {E : Type 0} (n : ℕ) (a b : D) → IsMeasured {E = E} disk files.Cm (Ok n) a b → IfSome (disk.held b) (λ (d : Files). length d.cm ≡ n)
  measured_size n a b m = where_told (disk.held b) (λ (d : Files). length d.cm ≡ n) (λ d is. sym (m.value d (sym m.held ∙ is)))

  -- ---- opening
  still_sure : (end : Result Found OpenErr) (a b : D) → IsHeaderSure disk a → disk.held b ≡ disk.held a → CrashesIn disk NothingNew a b → OnOk end (IsHeaderSure disk b)
  still_sure (Err e) a b sure held crash = tt
  still_sure (Ok f) a b sure held crash = λ d image is left. sure d image (sym held ∙ is) (old_image crash image left)

  nothing_opens : {a b : D} → CrashesIn disk NothingNew a b → CrashesIn disk WithinOpen a b
  nothing_opens crash = other_step (λ before image left same. inl same) crash

  no_blank : (d : Files) → length d.cm ≡ 512 → ¬ (IsBlank d)
  no_blank d size = λ (blank : IsBlank d). absurd (omega (arith, size, blank.cm))

  -- a header of 512 bytes
  pub opens_look : (end : Result Found OpenErr) (a b : D) → IfSome (disk.held a) (λ (d : Files). length d.cm ≡ 512) → IsHeaderSure disk a
      → IsLook disk 1 end a b → IsOpening disk 12 end a b
  opens_look end a b size sure look = record {
    told = λ d is. (d, look.held ∙ is, by end d (held_has (disk.held a) (λ (f : Files). length f.cm ≡ 512) size d is) (look.finds d is));
    untold = λ none. look.held ∙ none;
    sure = still_sure end a b sure look.held look.crash;
    crash = λ d is. nothing_opens look.crash;
    count = more_at_most 1 12 (omega arith) look.count;
    faults = look.faults;
  }
    where
      by : (end : Result Found OpenErr) (d : Files) → length d.cm ≡ 512 → Finds end d.cm → Opens end d d
      by (Ok f) d size finds = record {
        stores = inr (has_value f.side d.cm f.value finds.0);
        found = finds;
        ip = refl;
        dp = refl;
        kept = λ other. refl;
        made = λ blank. absurd (no_blank d size blank);
      }
      by (Err Header) d size finds = (
        refl,
        λ v. ⊎_elim
            (λ (first : IsBlank d × (v ≡ first_value)). no_blank d size first.0)
            (λ (has : HasValue d.cm v). finds v has),
      )
      by (Err Disk) d size finds = inl refl

  -- a header that is too long
  pub opens_long : (n : ℕ) (a : D) → IfSome (disk.held a) (λ (d : Files). length d.cm ≡ n) → 512 < n → IsOpening disk 12 (Err Header) a a
  opens_long n a size long = record {
    told = λ d is. (
      d,
      is,
      (
        refl,
        λ v.
            let count : length d.cm ≡ n = held_has (disk.held a) (λ (f : Files). length f.cm ≡ n) size d is in ⊎_elim
            (λ (first : IsBlank d × (v ≡ first_value)). absurd (omega (arith, first.0.cm, count, long)))
            (λ (has : HasValue d.cm v). absurd (omega (arith, has.size, count, long))),
      ),
    );
    untold = λ none. none;
    sure = tt;
    crash = λ d is. no_step (disk.commands a) (disk.leaves a) (disk.left_since a) (λ image left. inl refl);
    count = record { later = omega arith; bound = omega arith };
    faults = record { later = omega arith; failed = tt };
  }

  -- a short one beside a partition with bytes
  pub opens_short : {E : Type 0} (a b : D) → IfSome (disk.held a) (λ (d : Files). IsShort d.cm) → AreMeasured {E = E} disk (Ok false) a b
      → IsOpening disk 12 (Err Header) a b
  opens_short a b size m = record {
    told = λ d is. (
      d,
      m.held ∙ is,
      (
        refl,
        λ v. ⊎_elim
            (λ (first : IsBlank d × (v ≡ first_value)). m.value d is (first.0.ip, first.0.dp))
            (λ (has : HasValue d.cm v). absurd (omega (arith, has.size, held_has (disk.held a) (λ (f : Files). IsShort f.cm) size d is))),
      ),
    );
    untold = λ none. m.held ∙ none;
    sure = tt;
    crash = λ d is. nothing_opens m.crash;
    count = more_at_most 4 12 (omega arith) m.count;
    faults = record { later = m.cause.later; failed = tt };
  }

  -- commands that fail before anything is written
  pub opens_not : {T E : Type 0} (m n : ℕ) (e : E) (a b : D) → m ≤ n → disk.held b ≡ disk.held a → AtMost m (disk.commands a) (disk.commands b)
      → HasCause {T = T} (disk.faults a) (disk.faults b) (Err e) → CrashesIn disk NothingNew a b → IsOpening disk n (Err Disk) a b
  opens_not m n e a b few held count cause crash = record {
    told = λ d is. (d, held ∙ is, inl refl);
    untold = λ none. held ∙ none;
    sure = tt;
    crash = λ d is. nothing_opens crash;
    count = more_at_most m n few count;
    faults = disk_failed cause;
  }

  -- between the look and the making
  pub blank_ready : {E : Type 0} (a b : D) → IfSome (disk.held a) (λ (d : Files). IsShort d.cm) → IsHeaderSure disk a
      → AreMeasured {E = E} disk (Ok true) a b → IsReady disk AreEmpty IsShort b
  blank_ready a b size sure m = λ d is.
      let was : disk.held a ≡ Some d = sym m.held ∙ is in (
        held_has (disk.held a) (λ (f : Files). IsShort f.cm) size d was,
        m.value d was,
        λ image left. (sure d image was (old_image m.crash image left), m.sure refl d image is left),
      )

  -- the making, behind the look
  pub opens_made : {T E : Type 0} (r : Result T E) (end : Result Found OpenErr) (a b c : D) → IfSome (disk.held a) (λ (d : Files). IsShort d.cm) → IsHeaderSure disk a
      → AreMeasured {E = E} disk (Ok true) a b → IsPiece disk HasFirst AreEmpty IsMade 8 r b c → IsMaking r end → IsOpening disk 12 end a c
  opens_made {T} {E} r end a b c size sure m made same = record {
    told = λ d is.
        let was : disk.held b ≡ Some d = m.held ∙ is in
        let t = made.told d was in
        (t.0, t.1, ends r end d t.0 same made.ready t.1 t.2 t.3 t.4 (short d is) (m.value d is));
    untold = λ none. made.untold (m.held ∙ none);
    sure = sures r end same made.ready;
    crash = λ d is. both_steps join_open m.count.later (nothing_opens m.crash)
        (other_step (λ before image left within.
        let now = ready d (m.held ∙ is) in let was = now.2 before left in
        inr (record { ip = was.1.0; dp = was.1.1; cm = subst (λ (l : List ℕ). length l < 512) (sym was.0) now.0 }, within.0, within.1, within.2))
        (made.crash d (m.held ∙ is)));
    count = then_at_most m.count made.count;
    faults = fails r end same (omega (arith, m.cause.later)) made.cause;
  }
    where
      ready : IsReady disk AreEmpty IsShort b
      ready = blank_ready a b size sure m

      short : (d : Files) → disk.held a ≡ Some d → IsShort d.cm
      short d is = held_has (disk.held a) (λ (f : Files). IsShort f.cm) size d is

      ends : (r : Result T E) (end : Result Found OpenErr) (d e : Files) → IsMaking r end → OnOk r (IsReady disk AreEmpty IsMade c) → disk.held c ≡ Some e
          → e.ip ≡ d.ip → e.dp ≡ d.dp → HasFirst e → IsShort d.cm → AreEmpty d.ip d.dp → Opens end d e
      ends (Err x) (Err Disk) d e same ready is ip dp first less empty = inr (record { ip = empty.0; dp = empty.1; cm = less }, ip, dp, first)
      ends (Err x) (Err Header) d e same ready is ip dp first less empty = absurd same
      ends (Err x) (Ok f) d e same ready is ip dp first less empty = absurd same
      ends (Ok x) (Err why) d e same ready is ip dp first less empty = absurd same
      ends (Ok x) (Ok f) d e same ready is ip dp first less empty =
          let side : f.side ≡ First = same.0 in
          let value : f.value ≡ first_value = same.1 in
          let beside : f.beside ≡ false = same.2 in
          let blank : IsBlank d = record { ip = empty.0; dp = empty.1; cm = less } in
          let made : e.cm ≡ first_header = (ready e is).0 in
          record {
            stores = inl (blank, value);
            found = subst (λ (s : Side). IsRead s f.beside f.value e.cm) (sym side)
                (subst (λ (l : List ℕ). IsRead First f.beside l e.cm) (sym value)
                (subst (λ (t : Bool). IsRead First t first_value e.cm) (sym beside)
                (made_counts e.cm made, subst (λ (l : List ℕ). false ≡ (get_or l 256 0 == 1)) (sym made) refl)));
            ip = ip;
            dp = dp;
            kept = λ other. absurd (other blank);
            made = λ again. made;
          }

      sures : (r : Result T E) (end : Result Found OpenErr) → IsMaking r end → OnOk r (IsReady disk AreEmpty IsMade c) → OnOk end (IsHeaderSure disk c)
      sures r (Err why) same ready = tt
      sures (Err x) (Ok f) same ready = absurd same
      sures (Ok x) (Ok f) same ready = λ d image is left. ((ready d is).2 image left).0

      fails : (r : Result T E) (end : Result Found OpenErr) → IsMaking r end → disk.faults a ≤ disk.faults b → HasCause (disk.faults b) (disk.faults c) r
          → HasFaults (disk.faults a) (disk.faults c) end
      fails (Ok x) (Ok f) same le h = record { later = omega (arith, le, h.later); failed = tt }
      fails (Ok x) (Err why) same le h = absurd same
      fails (Err x) (Ok f) same le h = absurd same
      fails (Err x) (Err Header) same le h = absurd same
      fails (Err x) (Err Disk) same le h = record { later = omega (arith, le, h.later); failed = rose _ _ _ le h.failed }
        where
          rose : (x y z : ℕ) → x ≤ y → Rose y z → Rose x z
          rose x y z le h = omega (arith, le, h)

  -- the measure of the header before all else
  pub opens_after : {E : Type 0} (n : ℕ) (end : Result Found OpenErr) (a b c : D) → IsMeasured {E = E} disk files.Cm (Ok n) a b
      → IsOpening disk 12 end b c → IsOpening disk 14 end a c
  opens_after n end a b c m opening = record {
    told = λ d is. opening.told d (m.held ∙ is);
    untold = λ none. opening.untold (m.held ∙ none);
    sure = opening.sure;
    crash = λ d is. after m.count.later m.crash (opening.crash d (m.held ∙ is));
    count = then_at_most m.count opening.count;
    faults = then_faults end m.cause.later opening.faults;
  }
    where
      after : disk.commands a ≤ disk.commands b → CrashesIn disk NothingNew a b → CrashesIn disk WithinOpen b c → CrashesIn disk WithinOpen a c
      after le first second = both_steps join_open le (nothing_opens first) second

  -- what the type asks of a disk on which a value was found
  pub opened_ready : {n : ℕ} (f : Found) (a b : D) → IsOpening disk n (Ok f) a b → (d : Files) → disk.held b ≡ Some d
      → IsRead f.side f.beside f.value d.cm × ((image : Files) → disk.leaves b image → image.cm ≡ d.cm)
  opened_ready f a b o d is =
      let was = told_before (disk.held a) (disk.held b) o.untold d is in
      let t = o.told was.0 was.1 in (
        subst (λ (x : Files). IsRead f.side f.beside f.value x.cm) (same_files (disk.held b) d t.0 is t.1) t.2.found,
        λ image left. o.sure d image is left,
      )
