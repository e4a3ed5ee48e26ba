-- Why a command of a tape failed, step by step.
use Rattle.std.proofs.Common.{◌≡◌, ◌≢◌, ◌≤◌, ◌<◌, ◌+◌, ◌-◌, ◌^◌, ℕ, Bool, true, false, List, length, ⊎_elim, inr, Option, Some, None, Result, Err, refl, sym, ap, ◌∙◌, subst, arith}
use Rattle.std.specs.Prelude.{IfErr, IfNone}
use Rattle.std.proofs.lemmas.List.{length-append}
use Rattle.byte_disk.specs.Files.{Files}
use Rattle.byte_disk.specs.declared.disk.ByteDisk.{Ghosts}
use Rattle.image_slots.specs.State as slot
use Rattle.image_slots.specs.Slots.{serial_of}
use Rattle.image_slots.specs.declared.errors.SetErr.{SetErr}
use Rattle.image_slots.specs.declared.errors.SetErr.TheVariants.{Serial}
use Rattle.image_slots.specs.declared.known.Known.TheVariants.{Steady}
use Rattle.image_slots.proofs.Choosing.{value_chosen}
use Rattle.image_format.specs.declared.values.SlotValue.{SlotValue}
use Rattle.image_format.specs.Images.{header, header_by, tail_of}
use Rattle.image_format.specs.Values.{flag}
use Rattle.tape_types.specs.declared.cartridges.Limits.{Limits}
use Rattle.tape_types.specs.declared.cartridges.Part.{Part}
use Rattle.tape_types.specs.declared.cartridges.Place.{Place}
use Rattle.tape_drive.specs.declared.drive.DriveErr.{DriveErr}
use Rattle.image_tape.specs.declared.doubt.Doubt.{Doubt}
use Rattle.image_tape.specs.declared.doubt.Doubt.TheVariants.{Settled, Open}
use Rattle.image_tape.specs.Halves.{half_of}
use Rattle.image_tape.specs.Steps.{IsFound}
use Rattle.image_tape.specs.Blames.{IsBlamed}
use Rattle.image_tape.specs.Tape.{IsKept, IsWithin, Tells, View, held_of}
use Rattle.image_tape.proofs.Heads.{within_as}
use Rattle.image_tape.proofs.Opened.{whole}
use Rattle.image_tape.proofs.Setting.{number_of}
use Rattle.image_tape.proofs.Shaping.{end_small, items_are, records_count, records_of}
use Rattle.image_tape.proofs.Spots.{small_of}
use Rattle.image_tape.proofs.Surely.{other_by_number}
use Rattle.image_tape.proofs.Telling.{held_whole, tells_of}
use Rattle.image_tape.proofs.Upkeep.{with_slots}

untold_by : {X : Type 0} (o : Option X) → ((x : X) → o ≡ Some x → ⊥) → o ≡ None
untold_by None not = refl
untold_by (Some x) not = absurd (not x refl)

tail_flag : (t : Bool) → length (tail_of t) ≡ flag t
tail_flag true = refl
tail_flag false = refl

module _ {D : Type 0} (disk : Ghosts D) where
  -- of a disk that tells no files nothing is said
  pub told_nothing : {T E : Type 0} {P : View D → Type 0} (why : E) (v : View D) → disk.held v.slots.disk ≡ None → IsBlamed {T = T} disk P (Err why) v v
  told_nothing why v none = record { later = omega arith; failed = inr (inr none) }

  -- what is known of the header of a disk that tells its files
  header_some : (v : View D) (leaves : Files → Type 0) (d : Files) (o : Doubt) → Tells o v leaves d
      → (s : SlotValue) × (header v.room.limits d.cm ≡ Some s)
  header_some v leaves d Settled h = (v.base, h.1)
  header_some v leaves d (Open value reads) h = ⊎_elim
      (λ (old : header v.room.limits d.cm ≡ Some v.base). (v.base, old)) (λ (new : header v.room.limits d.cm ≡ Some value). (value, new)) h.2

  -- a header that says nothing is of a disk that tells no files
  pub not_found : slot.KnownAreLeft disk → (v : View D) → IsKept disk v → slot.IsKept disk v.slots → v.slots.known ≡ Steady
      → header_by v.room.limits (Some v.slots.value) ≡ None → disk.held v.slots.disk ≡ None
  not_found left v kept slots_kept steady none = untold_by (disk.held v.slots.disk) (λ d told.
      let is = header_some v (disk.leaves v.slots.disk) d v.doubt (kept.tells d told) in
      let both : None ≡ Some is.0 = sym none ∙ sym (ap (header_by v.room.limits) (value_chosen d.cm v.slots.value (left v.slots slots_kept steady d told).0)) ∙ is.1 in
      cc both)

  -- where the header of a tape says nothing in form, the disk tells no files
  pub found_nothing : slot.KnownAreLeft disk → (v : View D) (limits : Limits) (bytes : List ℕ) (r : Option SlotValue) → IsKept disk v → slot.IsKept disk v.slots
      → v.slots.known ≡ Steady → bytes ≡ v.slots.value → limits ≡ v.room.limits → r ≡ header_by limits (Some bytes) → IfNone r (disk.held v.slots.disk ≡ None)
  found_nothing left v limits bytes (Some s) kept slots_kept steady is same e = tt
  found_nothing left v limits bytes None kept slots_kept steady is same e = not_found left v kept slots_kept steady
      (ap (λ (l : Limits). header_by l (Some v.slots.value)) (sym same) ∙ ap (λ (l : List ℕ). header_by limits (Some l)) (sym is) ∙ sym e)

  -- and so is one that says neither of the two values
  pub not_one : (v w : View D) (value reads s : SlotValue) → v ≡ w → IsKept disk v → v.doubt ≡ Open value reads → IsFound disk v s
      → s.serial ≢ v.base.serial → s.serial ≢ value.serial → disk.held w.slots.disk ≡ None
  not_one v w value reads s is kept unsure found other isnt = subst (λ (x : View D). disk.held x.slots.disk ≡ None) is
      (untold_by (disk.held v.slots.disk) (λ d told.
      let h = subst (λ (o : Doubt). Tells o v (disk.leaves v.slots.disk) d) unsure (kept.tells d told) in
      isnt (ap (λ (x : SlotValue). x.serial) (other_by_number v.room.limits v.base value s d h.2 (found.reads d told) other))))

  -- no serial number was left, though the header had one to spare: so the disk tells no files
  pub spent_blame : {P : View D → Type 0} (why : DriveErr) (v w : View D) (s : slot.View D) (rest : List ℕ) (serial : ℕ) (r : Result (Unit {0}) SetErr)
      → v ≡ w → IsKept disk v → w.doubt ≡ Settled → serial ≡ v.base.serial + 1 → serial < 2 ^ 64 → slot.IsSet disk rest r v.slots s → r ≡ Err Serial
      → IsBlamed {T = Unit {0}} disk P (Err why) w (with_slots s v)
  spent_blame why v w s rest serial r is kept settled next range done spent =
      let full : serial_of v.slots.value ≡ 2 ^ 64 - 1 =
      subst (λ (x : Result (Unit {0}) SetErr). IfErr x (λ e. slot.SetFails e v.slots.value (disk.faults v.slots.disk) (disk.faults s.disk))) spent done.failed in
      let same : s ≡ v.slots = done.after ∙ ap (λ (x : Result (Unit {0}) SetErr). slot.after_set x rest s.disk v.slots) spent in
      let none : disk.held v.slots.disk ≡ None = untold_by (disk.held v.slots.disk) (λ d told.
      let said = (tells_of disk v kept (ap (λ (x : View D). x.doubt) is ∙ settled) d told).3 in
      omega (arith, full, next, range, number_of v.room.limits v.slots.value v.base said)) in
      record {
        later = subst (λ (a : View D). disk.faults a.slots.disk ≤ disk.faults s.disk) is done.faults;
        failed = inr (inr (ap (λ (x : slot.View D). disk.held x.disk) same ∙ none));
      }

  -- a partition of a disk that tells its files has an end
  pub end_blame : {T : Type 0} {P : View D → Type 0} (why : DriveErr) (part : Part) (v w : View D) (end : ℕ) → v ≡ w → IsKept disk v → w.doubt ≡ Settled
      → end ≡ (half_of part v.reads).end → 2 ^ 61 ≤ end → IsBlamed {T = T} disk P (Err why) w w
  end_blame why part v w end is kept settled at far = record {
    later = omega arith;
    failed = inr (inr (subst (λ (x : View D). disk.held x.slots.disk ≡ None) is (untold_by (disk.held v.slots.disk) (λ d told.
        let st = (tells_of disk v kept (ap (λ (x : View D). x.doubt) is ∙ settled) d told).0 in
        omega (arith, at, far, end_small part st (small_of disk v kept part))))));
  }

  -- a place within what is told has no gap in front
  pub gap_blame : {T : Type 0} {P : View D → Type 0} (why : DriveErr) (at : Place) (v w : View D) (count : ℕ) → v ≡ w → IsKept disk v → w.doubt ≡ Settled
      → count ≡ (half_of at.part w.reads).count + flag (half_of at.part w.reads).torn → count < at.pos → IsWithin (held_of disk w) (Some at)
      → IsBlamed {T = T} disk P (Err why) w w
  gap_blame why at v w count is kept settled_w counts gap within = record {
    later = omega arith;
    failed = inr (inr (subst (λ (x : View D). disk.held x.slots.disk ≡ None) is (untold_by (disk.held v.slots.disk) (λ d told.
        let settled : v.doubt ≡ Settled = ap (λ (x : View D). x.doubt) is ∙ settled_w in
        let st = (tells_of disk v kept settled d told).0 in
        omega (
          arith,
          within_as disk v w (Some at) is within at (whole st) refl (held_whole disk v kept settled d told),
          ap (λ (x : View D). (half_of at.part x.reads).count + flag (half_of at.part x.reads).torn) is,
          ap length (items_are at.part st),
          length-append (records_of at.part st) (tail_of (half_of at.part v.reads).torn),
          records_count at.part st,
          tail_flag (half_of at.part v.reads).torn,
          counts,
          gap,
        )))));
  }
