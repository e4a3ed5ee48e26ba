-- The header is read anew, and one of two values is taken.
use Rattle.std.proofs.Common.{◌≡◌, ◌≢◌, ℕ, ◌+◌, ◌≤◌, ⊎_elim, inl, inr, Bool, true, false, List, Option, Some, None, Result, IfSome, refl, sym, ap, ◌∙◌, subst, arith}
use Rattle.std.specs.Prelude.{if◌then◌else◌}
use Rattle.std.proofs.lemmas.Bool.{eq-eqb, ne_eqb}
use Rattle.tape_types.specs.declared.cartridges.Cartridge.{Cartridge}
use Rattle.tape_types.specs.declared.cartridges.Limits.{Limits}
use Rattle.crash_steps.specs.Crashes.{NothingNew}
use Rattle.byte_disk.specs.Files.{Files}
use Rattle.byte_disk.specs.declared.disk.ByteDisk.{Ghosts}
use Rattle.image_slots.specs.Pieces.{AtMost, CrashesIn}
use Rattle.image_slots.specs.Slots.{HasValue}
use Rattle.image_slots.specs.State as slot
use Rattle.image_slots.specs.declared.known.Known.TheVariants.{Steady}
use Rattle.image_slots.specs.declared.errors.OpenErr.{OpenErr}
use Rattle.image_slots.proofs.Chains.{one_at_most, both_steps, join_same, then_at_most, more_at_most}
use Rattle.image_slots.proofs.Choosing.{value_chosen}
use Rattle.image_format.specs.declared.values.SlotValue.{SlotValue}
use Rattle.image_format.specs.Images.{header, header_by, image_by}
use Rattle.image_format.specs.Offsets.{Offsets}
use Rattle.image_tape.specs.declared.doubt.Doubt.{Doubt}
use Rattle.image_tape.specs.declared.doubt.Doubt.TheVariants.{Settled, Open}
use Rattle.image_tape.specs.Steps.{IsFound, Looks, Stays}
use Rattle.image_tape.specs.Tape.{AheadOn, CrashesAt, CrashesOn, IsKept, LeavesOf, SaysOne, Suits, Tells, View, cut_to, given, held_by, held_of, reading_by, says, with_reference}
use Rattle.image_tape.proofs.Lifting.{lifted_look, lifted_none, same_cartridge, same_reference}
use Rattle.image_tape.proofs.Opened.{agreed_opens, counted}
use Rattle.image_tape.proofs.Upkeep.{held_look, kept_look, with_slots}

-- what a header says whose value is known
pub header_of_value : (limits : Limits) (cm raw : List ℕ) (s : SlotValue) → HasValue cm raw → header_by limits (Some raw) ≡ Some s → header limits cm ≡ Some s
header_of_value limits cm raw s has said = ap (header_by limits) (value_chosen cm raw has) ∙ said

-- the header says the one of two values that has its serial number
one_by_number : (limits : Limits) (base value s : SlotValue) (d : Files) → SaysOne limits base value d → header limits d.cm ≡ Some s
    → value.serial ≡ base.serial + 1 → s.serial ≡ base.serial → s ≡ base
one_by_number limits base value s d (inl old) head next is = let same : Some s ≡ Some base = sym head ∙ old in cc same
one_by_number limits base value s d (inr new) head next is =
    let same : Some s ≡ Some value = sym head ∙ new in
    let equal : s ≡ value = cc same in
    absurd (omega (arith, ap (λ (x : SlotValue). x.serial) equal, next, is))

-- a header with another serial number says the other value
pub other_by_number : (limits : Limits) (base value s : SlotValue) (d : Files) → SaysOne limits base value d → header limits d.cm ≡ Some s
    → s.serial ≢ base.serial → s ≡ value
other_by_number limits base value s d (inl old) head isnt =
    let same : Some s ≡ Some base = sym head ∙ old in
    let equal : s ≡ base = cc same in
    absurd (isnt (ap (λ (x : SlotValue). x.serial) equal))
other_by_number limits base value s d (inr new) head isnt = let same : Some s ≡ Some value = sym head ∙ new in cc same

module _ {D : Type 0} (disk : Ghosts D) where
  abbrev pub with_doubt : Doubt → View D → View D
  with_doubt doubt v = record {
    slots = v.slots;
    room = v.room;
    base = v.base;
    reads = v.reads;
    doubt = doubt;
    head = v.head;
    faults = v.faults;
    opened = v.opened;
    past = v.past;
  }

  -- the value that was to be is the one of the header
  abbrev pub with_value : SlotValue → SlotValue → Offsets → View D → View D
  with_value value reads room v = record {
    slots = v.slots;
    room = room;
    base = value;
    reads = reads;
    doubt = Settled;
    head = v.head;
    faults = v.faults;
    opened = v.opened;
    past = v.past;
  }

  -- what the header says is found, in all that a crash leaves too
  pub found_is : slot.KnownAreLeft disk → (v : View D) (limits : Limits) (bytes : List ℕ) (r : Option SlotValue) → slot.IsKept disk v.slots
      → v.slots.known ≡ Steady → bytes ≡ v.slots.value → limits ≡ v.room.limits → r ≡ header_by limits (Some bytes) → IfSome r (λ s. IsFound disk v s)
  found_is left v limits bytes None kept steady is same e = tt
  found_is left v limits bytes (Some s) kept steady is same e =
      let said : header_by v.room.limits (Some v.slots.value) ≡ Some s =
      ap (λ (l : Limits). header_by l (Some v.slots.value)) (sym same) ∙ ap (λ (l : List ℕ). header_by limits (Some l)) (sym is) ∙ sym e in
      record {
        value = said;
        reads = λ d told. header_of_value v.room.limits d.cm v.slots.value s (left v.slots kept steady d told).0 said;
        left = λ d image told was. header_of_value v.room.limits image.cm v.slots.value s ((left v.slots kept steady d told).1 image was) said;
      }

  opened_tells : (v : View D) (value reads : SlotValue) → IsKept disk v → v.doubt ≡ Open value reads → (d : Files) → disk.held v.slots.disk ≡ Some d
      → Tells (Open value reads) v (disk.leaves v.slots.disk) d
  opened_tells v value reads kept unsure d is = subst (λ (o : Doubt). Tells o v (disk.leaves v.slots.disk) d) unsure (kept.tells d is)

  -- which of the two reads
  says_same : (s base : SlotValue) (o : Option SlotValue) → o ≡ Some s → s.serial ≡ base.serial → says base o ≡ true
  says_same s base o is same = ap (says base) is ∙ eq-eqb s.serial base.serial same

  says_other : (s base : SlotValue) (o : Option SlotValue) → o ≡ Some s → s.serial ≢ base.serial → says base o ≡ false
  says_other s base o is other = ap (says base) is ∙ ne_eqb s.serial base.serial other

  abbrev open_held : View D → SlotValue → SlotValue → Option Files → Option Cartridge
  open_held v value reads o = held_by (with_doubt (Open value reads) v) o

  held_in : (v : View D) (doubt : Doubt) → v.doubt ≡ doubt → (o : Option Files) → held_by v o ≡ held_by (with_doubt doubt v) o
  held_in v doubt is None = refl
  held_in v doubt is (Some d) = ap (λ (x : Doubt). given (image_by d (Some (reading_by x v.base v.reads (header v.room.limits d.cm))))) is

  before_by : (v : View D) (value reads s : SlotValue) (o : Option Files) → ((d : Files) → o ≡ Some d → header v.room.limits d.cm ≡ Some s)
      → s.serial ≡ v.base.serial → open_held v value reads o ≡ held_by (with_doubt Settled v) o
  before_by v value reads s None head is = refl
  before_by v value reads s (Some d) head is =
      ap (λ (t : Bool). given (image_by d (Some (if t then v.reads else reads)))) (says_same s v.base (header v.room.limits d.cm) (head d refl) is)

  pub held_before : (v : View D) (value reads s : SlotValue) → v.doubt ≡ Open value reads → IsFound disk v s → s.serial ≡ v.base.serial
      → held_of disk (with_doubt Settled v) ≡ held_of disk v
  held_before v value reads s unsure found is =
      sym (held_in v (Open value reads) unsure (disk.held v.slots.disk) ∙ before_by v value reads s (disk.held v.slots.disk) found.reads is)

  after_by : (v : View D) (value reads s : SlotValue) (room : Offsets) (o : Option Files) → ((d : Files) → o ≡ Some d → header v.room.limits d.cm ≡ Some s)
      → s.serial ≢ v.base.serial → open_held v value reads o ≡ held_by (with_value value reads room v) o
  after_by v value reads s room None head isnt = refl
  after_by v value reads s room (Some d) head isnt =
      ap (λ (t : Bool). given (image_by d (Some (if t then v.reads else reads)))) (says_other s v.base (header v.room.limits d.cm) (head d refl) isnt)

  pub held_after : (v : View D) (value reads s : SlotValue) (room : Offsets) → v.doubt ≡ Open value reads → IsFound disk v s → s.serial ≢ v.base.serial
      → held_of disk (with_value value reads room v) ≡ held_of disk v
  held_after v value reads s room unsure found isnt =
      sym (held_in v (Open value reads) unsure (disk.held v.slots.disk) ∙ after_by v value reads s room (disk.held v.slots.disk) found.reads isnt)

  -- a tape whose header says the value from before is one with that value
  pub kept_before : (v : View D) (value reads s : SlotValue) → IsKept disk v → v.doubt ≡ Open value reads → v.slots.known ≡ Steady → IsFound disk v s
      → s.serial ≡ v.base.serial → IsKept disk (with_doubt Settled v)
  kept_before v value reads s kept unsure steady found is = record {
    limits = kept.limits;
    holds = kept.holds;
    suits = steady;
    reached = kept.reached;
    always = kept.always;
    past = kept.past;
    within = λ at c head told. kept.within at c head (sym (held_before v value reads s unsure found is) ∙ told);
    tells = λ d told.
        let h = opened_tells v value reads kept unsure d told in
        let same : s ≡ v.base = one_by_number v.room.limits v.base value s d h.2 (found.reads d told) h.4 is in (
          h.0,
          subst (λ (x : SlotValue). header v.room.limits d.cm ≡ Some x) same (found.reads d told),
          λ left was. subst (λ (x : SlotValue). header v.room.limits left.cm ≡ Some x) same (found.left d left told was),
          subst (λ (x : SlotValue). header_by v.room.limits (Some v.slots.value) ≡ Some x) same found.value,
        );
  }

  pub kept_after : (v : View D) (value reads s : SlotValue) → IsKept disk v → v.doubt ≡ Open value reads → v.slots.known ≡ Steady → IsFound disk v s
      → s.serial ≢ v.base.serial → IsKept disk (with_value value reads (cut_to reads v.room) v)
  kept_after v value reads s kept unsure steady found isnt = record {
    limits = kept.limits;
    holds = subst (λ (o : Doubt). Suits o v) unsure kept.suits;
    suits = steady;
    reached = kept.reached;
    always = kept.always;
    past = kept.past;
    within = λ at c head told.
        kept.within at c head (sym (held_after v value reads s (cut_to reads v.room) unsure found isnt) ∙ told);
    tells = λ d told.
        let h = opened_tells v value reads kept unsure d told in
        let same : s ≡ value = other_by_number v.room.limits v.base value s d h.2 (found.reads d told) isnt in (
          h.1,
          subst (λ (x : SlotValue). header v.room.limits d.cm ≡ Some x) same (found.reads d told),
          λ left was. subst (λ (x : SlotValue). header v.room.limits left.cm ≡ Some x) same (found.left d left told was),
          subst (λ (x : SlotValue). header_by v.room.limits (Some v.slots.value) ≡ Some x) same found.value,
        );
  }

  -- steps that only read
  pub looks_alike : (v w : View D) → Stays v w → w.slots.disk ≡ v.slots.disk → held_of disk w ≡ held_of disk v
      → ((image : Cartridge) → AheadOn disk v.room.limits w.reads.vcr v.slots.disk image → LeavesOf disk v image) → Looks disk 0 v w
  looks_alike v w stays same held within = record {
    stays = stays;
    held = held;
    count = subst (λ (b : D). AtMost 0 (disk.commands v.slots.disk) (disk.commands b)) (sym same) (record { later = omega arith; bound = omega arith });
    crash = subst (λ (b : D). CrashesAt disk v.room.limits NothingNew v.reads.vcr v.slots.disk w.reads.vcr b) (sym same)
        (lifted_none disk v.room.limits v.reads.vcr w.reads.vcr v.slots.disk within);
  }

  pub stays_same : (v : View D) → Stays v v
  stays_same v = record { limits = refl; faults = refl; opened = refl }

  -- where no command is done, the tape was only looked at
  pub no_looks : (v : View D) → Looks disk 0 v v
  no_looks v = looks_alike v v (stays_same v) refl refl (λ image left. left)

  -- commands that only read the disk only look at the tape
  pub looked : (most : ℕ) (v w : View D) (s : slot.View D) → v ≡ w → disk.held s.disk ≡ disk.held v.slots.disk → AtMost most (disk.commands v.slots.disk) (disk.commands s.disk)
      → CrashesIn disk NothingNew v.slots.disk s.disk → Looks disk most w (with_slots s v)
  looked most v w s is held count crash = subst (λ (x : View D). Looks disk most x (with_slots s v)) is (record {
    stays = record { limits = refl; faults = refl; opened = refl };
    held = held_look disk v s held;
    count = count;
    crash = lifted_look disk v.room.limits v.reads.vcr v.reads.vcr v.slots.disk s.disk refl held crash;
  })

  -- commands that only look, one behind the other, only look
  pub then_looks : (m n : ℕ) (a b c : View D) → Looks disk m a b → Looks disk n b c → Looks disk (m + n) a c
  then_looks m n a b c first second = record {
    stays = record {
      limits = second.stays.limits ∙ first.stays.limits;
      faults = second.stays.faults ∙ first.stays.faults;
      opened = second.stays.opened ∙ first.stays.opened;
    };
    held = second.held ∙ first.held;
    count = then_at_most first.count second.count;
    crash = both_steps join_same first.count.later first.crash
        (subst (λ (l : Limits). CrashesOn disk l NothingNew b c) first.stays.limits second.crash);
  }

  -- what looks with so many commands looks with more at most
  pub more_looks : (m n : ℕ) (a b : View D) → m ≤ n → Looks disk m a b → Looks disk n a b
  more_looks m n a b le looks = record {
    stays = looks.stays;
    held = looks.held;
    count = more_at_most m n le looks.count;
    crash = looks.crash;
  }

  -- the slots are known by another name of the view too
  pub steady_in : (v w : View D) → v ≡ w → w.slots.known ≡ Steady → v.slots.known ≡ Steady
  steady_in v w is steady = ap (λ (x : View D). x.slots.known) is ∙ steady

  -- the doubt between two values is the same by another name of the view
  pub open_in : (v w : View D) (value reads : SlotValue) → v ≡ w → w.doubt ≡ Open value reads → v.doubt ≡ Open value reads
  open_in v w value reads is unsure = ap (λ (x : View D). x.doubt) is ∙ unsure

  -- what is found of a header is found by another name of the view too
  pub found_in : (v w : View D) (s : SlotValue) → v ≡ w → IsFound disk w s → IsFound disk v s
  found_in v w s is found = subst (λ (x : View D). IsFound disk x s) (sym is) found

  -- a tape whose header says the value that was to be set is one with that value
  pub kept_chosen : (v : View D) (value reads s : SlotValue) (room : Offsets) → IsKept disk v → v.doubt ≡ Open value reads → v.slots.known ≡ Steady
      → IsFound disk v s → s.serial ≢ v.base.serial → room ≡ cut_to reads v.room → IsKept disk (with_value value reads room v)
  kept_chosen v value reads s room kept unsure steady found isnt is =
      subst (λ (x : Offsets). IsKept disk (with_value value reads x v)) (sym is) (kept_after v value reads s kept unsure steady found isnt)

  -- taking the value from before only looks
  pub chosen_before : (v w : View D) (value reads s : SlotValue) → v ≡ w → v.doubt ≡ Open value reads → IsFound disk v s → s.serial ≡ v.base.serial
      → Looks disk 0 w (with_doubt Settled v)
  chosen_before v w value reads s is unsure found same = subst (λ (x : View D). Looks disk 0 x (with_doubt Settled v)) is
      (looks_alike v (with_doubt Settled v) (record { limits = refl; faults = refl; opened = refl }) refl
      (held_before v value reads s unsure found same) (λ image left. left))

  -- the value that was to be has the reference that reads with it
  left_after : (v : View D) (value reads s : SlotValue) → IsKept disk v → v.doubt ≡ Open value reads → IsFound disk v s → s.serial ≢ v.base.serial
      → (image : Cartridge) → AheadOn disk v.room.limits reads.vcr v.slots.disk image → LeavesOf disk v image
  left_after v value reads s kept unsure found isnt image h = ⊎_elim
      (λ (it : image ≡ h.0). (h.0, h.1, inl it))
      (λ (ahead : (h.0.vcr ≤ reads.vcr) × (image ≡ with_reference reads.vcr h.0)).
      let d = h.1.3.0 in
      let told = h.1.3.1 in
      let t = opened_tells v value reads kept unsure d told in
      let same : s ≡ value = other_by_number v.room.limits v.base value s d t.2 (found.reads d told) isnt in
      let head : header v.room.limits h.1.0.cm ≡ Some value =
      subst (λ (x : SlotValue). header v.room.limits h.1.0.cm ≡ Some x) same (found.left d h.1.0 told h.1.1) in
      let one : h.0 ≡ counted t.1 = same_cartridge _ (counted t.1) h.0 (agreed_opens t.1 h.1.0 (t.1.agree h.1.0 h.1.1) head) h.1.2 in
      (h.0, h.1, inl (ahead.1 ∙ same_reference reads.vcr h.0 (sym (ap (λ (x : Cartridge). x.vcr) one ∙ t.5)))))
      h.2

  -- taking the value that was to be set only looks
  pub chosen_after : (v w : View D) (value reads s : SlotValue) (room : Offsets) → v ≡ w → IsKept disk v → v.doubt ≡ Open value reads → IsFound disk v s
      → s.serial ≢ v.base.serial → room ≡ cut_to reads v.room → Looks disk 0 w (with_value value reads room v)
  chosen_after v w value reads s room is kept unsure found isnt cut = subst (λ (x : View D). Looks disk 0 x (with_value value reads room v)) is
      (looks_alike v (with_value value reads room v)
      (record { limits = ap (λ (r : Offsets). r.limits) cut; faults = refl; opened = refl }) refl
      (held_after v value reads s room unsure found isnt) (left_after v value reads s kept unsure found isnt))

  -- a tape is still one after a command that only reads the disk
  pub kept_command : {T E : Type 0} (end : Result T E) (v : View D) (s : slot.View D) → IsKept disk v → disk.held s.disk ≡ disk.held v.slots.disk
      → slot.IsCommand disk NothingNew end v.slots s → IsKept disk (with_slots s v)
  kept_command end v s kept held done = kept_look disk v s kept (λ settled. done.over.known) (λ settled. done.over.value) held
      (one_at_most done.count).later done.crash

  -- a command that only reads the disk only looks at the tape
  pub looked_command : {T E : Type 0} (end : Result T E) (v w : View D) (s : slot.View D) → v ≡ w → disk.held s.disk ≡ disk.held v.slots.disk
      → slot.IsCommand disk NothingNew end v.slots s → Looks disk 1 w (with_slots s v)
  looked_command end v w s is held done = looked 1 v w s is held (one_at_most done.count) done.crash

  settled_steady : (v : View D) → IsKept disk v → v.doubt ≡ Settled → v.slots.known ≡ Steady
  settled_steady v kept settled = subst (λ (o : Doubt). Suits o v) settled kept.suits

  -- a tape is still one after the slots were recovered
  pub kept_recovered : (end : Result (Unit {0}) OpenErr) (v : View D) (s : slot.View D) → IsKept disk v → slot.IsRecovered disk end v.slots s
      → IsKept disk (with_slots s v)
  kept_recovered end v s kept done = kept_look disk v s kept
      (λ settled. ap (λ (x : slot.View D). x.known) (done.nothing (settled_steady v kept settled)))
      (λ settled. ap (λ (x : slot.View D). x.value) (done.nothing (settled_steady v kept settled)))
      done.held done.count.later done.crash

  -- recovering the slots only looks at the tape
  pub looked_recovered : (end : Result (Unit {0}) OpenErr) (v w : View D) (s : slot.View D) → v ≡ w → slot.IsRecovered disk end v.slots s
      → Looks disk 2 w (with_slots s v)
  looked_recovered end v w s is done = looked 2 v w s is done.held done.count done.crash

  -- what is without doubt is so by another name of the view too
  pub settled_in : (v w : View D) → v ≡ w → w.doubt ≡ Settled → v.doubt ≡ Settled
  settled_in v w is settled = ap (λ (x : View D). x.doubt) is ∙ settled
