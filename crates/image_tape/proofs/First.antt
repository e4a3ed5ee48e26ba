-- The files of a disk mean the same once its header was found, or made.
use Rattle.std.proofs.Common.{◌≡◌, ℕ, ◌≤◌, ⊎_elim, inl, inr, Bool, true, false, ◌==◌, ◌&&◌, nat_lt, nat_le, List, [], length, Option, Some, None, Result, Ok, Err, IfOk, IfErr, refl, sym, ap, ◌∙◌, subst, arith}
use Rattle.std.specs.Prelude.{if◌then◌else◌}
use Rattle.std.proofs.lemmas.Bool.{and_from, and_parts, eq-eqb, eqb-true, le-leb, lt-ltb, ltb-true}
use Rattle.std.proofs.lemmas.List.{nil_from_length}
use Rattle.tape_types.specs.declared.cartridges.Limits.{Limits}
use Rattle.byte_disk.specs.Files.{Files}
use Rattle.byte_disk.specs.declared.disk.ByteDisk.{Ghosts}
use Rattle.image_slots.specs.Calls.{IsOpened, IsOpening, WithinOpen, first_header}
use Rattle.image_slots.specs.Pieces.{CrashesIn}
use Rattle.image_slots.specs.Sides.{chosen}
use Rattle.image_slots.specs.Slots.{IsBlank, Stores, first_value}
use Rattle.image_slots.specs.declared.errors.OpenErr as slots
use Rattle.image_slots.specs.declared.errors.OpenErr.TheVariants as slot_errors
use Rattle.image_slots.specs.declared.sides.Found.{Found}
use Rattle.image_slots.proofs.Chains.{both_steps}
use Rattle.image_slots.proofs.Choosing.{chosen_value, value_chosen}
use Rattle.image_format.specs.declared.refusal.Refusal.TheVariants as rh
use Rattle.image_format.specs.Images.{blank, header, header_by, image, image_by, is_blank}
use Rattle.image_format.specs.Values.{value_of}
use Rattle.image_tape.specs.declared.errors.OpenErr.{OpenErr}
use Rattle.image_tape.specs.declared.errors.OpenErr.TheVariants.{Header, Record, Disk}
use Rattle.image_tape.specs.Opens.{HasFault, HasOpened, IsRefused, RefusedAs, header_reason}
use Rattle.image_tape.specs.Tape.{View}

is_blank_found : (d : Files) → IsBlank d → is_blank d ≡ true
is_blank_found d is =
    and_from ((length d.ip == 0) && (length d.dp == 0)) (nat_lt (length d.cm) 512)
    (and_from (length d.ip == 0) (length d.dp == 0) (eq-eqb (length d.ip) 0 (ap length is.ip)) (eq-eqb (length d.dp) 0 (ap length is.dp)))
    (lt-ltb (length d.cm) 512 is.cm)

is_blank_only : (d : Files) → is_blank d ≡ true → IsBlank d
is_blank_only d e =
    let both = and_parts ((length d.ip == 0) && (length d.dp == 0)) (nat_lt (length d.cm) 512) e in
    let parts = and_parts (length d.ip == 0) (length d.dp == 0) both.0 in
    record {
      ip = nil_from_length d.ip (eqb-true (length d.ip) 0 parts.0);
      dp = nil_from_length d.dp (eqb-true (length d.dp) 0 parts.1);
      cm = ltb-true (length d.cm) 512 both.1;
    }

-- the first header says nothing, and fits every capacity
first_says : (limits : Limits) → image limits (record { ip = []; dp = []; cm = first_header }) ≡ Ok blank
first_says limits =
    ap (λ (t : Bool). image_by (record { ip = []; dp = []; cm = first_header }) (if t && nat_le 0 limits.cap_dp then value_of first_value else None)) (le-leb 0 limits.cap_ip (omega arith))
    ∙ ap (λ (t : Bool). image_by (record { ip = []; dp = []; cm = first_header }) (if t then value_of first_value else None)) (le-leb 0 limits.cap_dp (omega arith))

files_are : (d : Files) (ip dp cm : List ℕ) → d.ip ≡ ip → d.dp ≡ dp → d.cm ≡ cm → d ≡ record { ip = ip; dp = dp; cm = cm }
files_are d ip dp cm a b c = λ i. record { ip = a i; dp = b i; cm = c i }

same_by : (limits : Limits) (d e : Files) (f : Found) (t : Bool) → is_blank d ≡ t → IsOpened f d e → image limits e ≡ image limits d
same_by limits d e f true is h =
    let none = is_blank_only d is in
    ap (image limits) (files_are e [] [] first_header (h.ip ∙ none.ip) (h.dp ∙ none.dp) (h.made none)) ∙ first_says limits
    ∙ sym (ap (λ (t : Bool). if t then Ok blank else image_by d (header limits d.cm)) is)
same_by limits d e f false is h =
    let not : ¬ (IsBlank d) = λ blank_is. let bad : true ≡ false = sym (is_blank_found d blank_is) ∙ is in cc bad in
    ap (image limits) (files_are e d.ip d.dp d.cm h.ip h.dp (h.kept not))

same_image : (limits : Limits) (d e : Files) (f : Found) → IsOpened f d e → image limits e ≡ image limits d
same_image limits d e f h = same_by limits d e f (is_blank d) refl h

-- so does the value of a disk on which nothing was made
first_reads : (limits : Limits) (cm : List ℕ) → image_by (record { ip = []; dp = []; cm = cm }) (header_by limits (Some first_value)) ≡ Ok blank
first_reads limits cm =
    ap (λ (t : Bool). image_by (record { ip = []; dp = []; cm = cm }) (if t && nat_le 0 limits.cap_dp then value_of first_value else None)) (le-leb 0 limits.cap_ip (omega arith))
    ∙ ap (λ (t : Bool). image_by (record { ip = []; dp = []; cm = cm }) (if t then value_of first_value else None)) (le-leb 0 limits.cap_dp (omega arith))

blank_image : (limits : Limits) (d : Files) → IsBlank d → image limits d ≡ Ok blank
blank_image limits d none = ap (λ (t : Bool). if t then Ok blank else image_by d (header limits d.cm)) (is_blank_found d none)

stored_image : (limits : Limits) (e : Files) → e.ip ≡ [] → e.dp ≡ [] → Stores e first_value → image limits e ≡ Ok blank
stored_image limits e ip dp (inl first) = blank_image limits e first.0
stored_image limits e ip dp (inr has) = by (is_blank e) refl
  where
    by : (t : Bool) → is_blank e ≡ t → image limits e ≡ Ok blank
    by true is = absurd (omega (arith, has.size, (is_blank_only e is).cm))
    by false is =
        ap (λ (t : Bool). if t then Ok blank else image_by e (header limits e.cm)) is
        ∙ ap (λ (o : Option (List ℕ)). image_by e (header_by limits o)) (value_chosen e.cm first_value has)
        ∙ ap (λ (x : Files). image_by x (header_by limits (Some first_value))) (files_are e [] [] e.cm ip dp refl)
        ∙ first_reads limits e.cm

-- a disk on which a making was cut off means what it meant
made_image : (limits : Limits) (d e : Files) → IsBlank d → e.ip ≡ d.ip → e.dp ≡ d.dp → Stores e first_value → image limits e ≡ image limits d
made_image limits d e none ip dp stores = stored_image limits e (ip ∙ none.ip) (dp ∙ none.dp) stores ∙ sym (blank_image limits d none)

-- two openings are one
one_opening : (x y z : Files) → WithinOpen x y → WithinOpen y z → WithinOpen x z
one_opening x y z h (inl same) = subst (λ (f : Files). WithinOpen x f) (sym same) h
one_opening x y z (inl same) (inr made) = inr (subst (λ (f : Files). IsBlank f × (z.ip ≡ f.ip) × (z.dp ≡ f.dp) × Stores z first_value) same made)
one_opening x y z (inr first) (inr made) = inr (first.0, made.1 ∙ first.1, made.2 ∙ first.2, made.3)

module _ {D : Type 0} (disk : Ghosts D) where
  -- the files once the header was found
  module _ (old new : D) (f : Found) (found : IsOpening disk 14 (Ok f) old new) where
    -- what an opening leaves to a crash, once the header was found
    opening_behind : {last : D} (d : Files) → disk.held old ≡ Some d → ((e : Files) → disk.held new ≡ Some e → CrashesIn disk WithinOpen new last)
        → CrashesIn disk WithinOpen old last
    opening_behind d is crash = let t = found.told d is in both_steps one_opening found.count.later (found.crash d is) (crash t.0 t.1)

    opened_one : (limits : Limits) (v : View D) → HasOpened disk limits new v → HasOpened disk limits old v
    opened_one limits v h = record {
      limits_are = h.limits_are;
      head = h.head;
      faults = h.faults;
      opened = h.opened;
      later = omega (arith, found.count.later, h.later);
      crash = λ d is. opening_behind d is h.crash;
      untold = λ none. h.untold (found.untold none);
      told = λ d is.
          let t = found.told d is in
          let o = h.told t.0 t.1 in
          (o.0, sym (same_image limits d t.0 f t.2) ∙ o.1, o.2, o.3);
    }

    refused_as : (limits : Limits) (why : OpenErr) (d e : Files) → image limits e ≡ image limits d → RefusedAs limits e why → RefusedAs limits d why
    refused_as limits Header d e same h = sym same ∙ h
    refused_as limits (Record part n) d e same h = sym same ∙ h
    refused_as limits (Disk counts) d e same h = tt

    fault_as : (why : OpenErr) (a b c : ℕ) → a ≤ b → HasFault b c why → HasFault a c why
    fault_as Header a b c le h = tt
    fault_as (Record part n) a b c le h = tt
    fault_as (Disk counts) a b c le h = record { lowest = omega (arith, le, h.lowest); rose = h.rose; highest = h.highest }

    pub refused_one : (limits : Limits) (why : OpenErr) (last : D) → IsRefused disk limits why new last → IsRefused disk limits why old last
    refused_one limits why last h = record {
      told = λ d is. let t = found.told d is in refused_as limits why d t.0 (same_image limits d t.0 f t.2) (h.told t.0 t.1);
      later = omega (arith, found.count.later, h.later);
      crash = λ d is. opening_behind d is h.crash;
      untold = λ none. h.untold (found.untold none);
      left = λ d is.
          let t = found.told d is in
          let u = h.left t.0 t.1 in (u.0, u.1, u.2 ∙ same_image limits d t.0 f t.2);
      fault = fault_as why (disk.faults old) (disk.faults new) (disk.faults last) found.faults.later h.fault;
    }

  -- a tape that opens once the header is made opens the disk as it was
  pub opened_first : {E : Type 0} (limits : Limits) (old new : D) (f : Found) → IsOpening disk 14 (Ok f) old new → (r : Result (View D) E)
      → IfOk r (λ t. HasOpened disk limits new t) → IfOk r (λ t. HasOpened disk limits old t)
  opened_first limits old new f found (Ok v) h = opened_one old new f found limits v h
  opened_first limits old new f found (Err why) h = tt

  -- no header
  no_header : (limits : Limits) (d : Files) → ((v : List ℕ) → ¬ (Stores d v)) → image limits d ≡ Err rh.Header
  no_header limits d none = by (is_blank d) (chosen d.cm) refl refl
    where
      by : (t : Bool) (o : Option (List ℕ)) → is_blank d ≡ t → chosen d.cm ≡ o → image limits d ≡ Err rh.Header
      by true o is e = absurd (none first_value (inl (is_blank_only d is, refl)))
      by false None is e =
          ap (λ (t : Bool). if t then Ok blank else image_by d (header limits d.cm)) is ∙ ap (λ (o : Option (List ℕ)). image_by d (header_by limits o)) e
      by false (Some v) is e = absurd (none v (inr (chosen_value d.cm v e)))

  header_refused : (limits : Limits) (why : slots.OpenErr) (old new : D) → IsOpening disk 14 (Err why) old new
      → IsRefused disk limits (header_reason why (disk.faults old) (disk.faults new)) old new
  header_refused limits slot_errors.Header old new found = record {
    told = λ d is. let t = found.told d is in no_header limits d t.2.1;
    later = found.count.later;
    crash = found.crash;
    untold = found.untold;
    left = λ d is. let t = found.told d is in (t.0, t.1, ap (image limits) t.2.0);
    fault = tt;
  }
  header_refused limits slot_errors.Disk old new found = record {
    told = λ d is. tt;
    later = found.count.later;
    crash = found.crash;
    untold = found.untold;
    left = λ d is.
        let t = found.told d is in (
          t.0,
          t.1,
          ⊎_elim
              (λ (same : t.0 ≡ d). ap (image limits) same)
              (λ (made : IsBlank d × (t.0.ip ≡ d.ip) × (t.0.dp ≡ d.dp) × Stores t.0 first_value). made_image limits d t.0 made.0 made.1 made.2 made.3)
              t.2,
        );
    fault = record { lowest = omega arith; rose = found.faults.failed; highest = omega arith };
  }

  -- why no header was found is why no tape is opened
  pub refused_header : (limits : Limits) (why : slots.OpenErr) (old new : D) (before after : ℕ) (reason : OpenErr) → IsOpening disk 14 (Err why) old new
      → before ≡ disk.faults old → after ≡ disk.faults new → reason ≡ header_reason why before after → IsRefused disk limits reason old new
  refused_header limits why old new before after reason found eb ea is =
      subst (λ (r : OpenErr). IsRefused disk limits r old new)
      (sym (is ∙ ap (λ (n : ℕ). header_reason why n after) eb ∙ ap (λ (n : ℕ). header_reason why (disk.faults old) n) ea)) (header_refused limits why old new found)

  -- why no tape opens once the header is made is why none opens the disk
  pub refused_first : {V F : Type 0} (limits : Limits) (why_of : F → OpenErr) (disk_of : F → D) (old new : D) (f : Found) → IsOpening disk 14 (Ok f) old new → (r : Result V F)
      → IfErr r (λ x. IsRefused disk limits (why_of x) new (disk_of x)) → IfErr r (λ x. IsRefused disk limits (why_of x) old (disk_of x))
  refused_first limits why_of disk_of old new f found (Ok v) h = tt
  refused_first limits why_of disk_of old new f found (Err x) h = refused_one old new f found limits (why_of x) (disk_of x) h
