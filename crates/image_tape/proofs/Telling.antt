-- What reads on a tape whose header is known, and what a crash leaves of it.
use Rattle.std.proofs.Common.{◌≡◌, ℕ, ◌≤◌, ⊎_elim, List, Option, Some, None, Result, Ok, Err, refl, sym, ap, ◌∙◌, subst}
use Rattle.std.specs.Prelude.{OnOk}
use Rattle.std.proofs.lemmas.Option.{same_Some}
use Rattle.tape_types.specs.Cartridges.{note_of}
use Rattle.tape_types.specs.declared.cartridges.Cartridge.{Cartridge}
use Rattle.tape_types.specs.declared.cartridges.Place.{Place}
use Rattle.tape_types.specs.declared.cartridges.Part.{Part}
use Rattle.tape_types.specs.declared.cartridges.Part.TheVariants.{Ip, Dp}
use Rattle.tape_drive.specs.Crashes.{IsSettled}
use Rattle.byte_disk.specs.Files.{Files}
use Rattle.byte_disk.specs.declared.disk.ByteDisk.{Ghosts}
use Rattle.image_slots.specs.State as slot
use Rattle.image_format.specs.declared.refusal.Refusal.{Refusal}
use Rattle.image_format.specs.declared.values.SlotValue.{SlotValue}
use Rattle.tape_types.specs.declared.cartridges.Item.{Item}
use Rattle.image_format.specs.Images.{cartridge_of, header, image_by}
use Rattle.image_tape.specs.declared.doubt.Doubt.{Doubt}
use Rattle.image_tape.specs.declared.doubt.Doubt.TheVariants.{Settled, Open}
use Rattle.image_tape.specs.Ends.{IsSure}
use Rattle.image_tape.specs.Halves.{half_of}
use Rattle.image_tape.specs.Steps.{IsSteady}
use Rattle.image_tape.specs.Tape.{AreEarlier, IsKept, IsWithin, LeavesOf, LeavesOn, Suits, Tells, View, given, held_by, held_of, reading_by, with_reference}
use Rattle.image_tape.proofs.Lifting.{same_cartridge, same_reference}
use Rattle.image_tape.proofs.Opened.{agreed_opens, counted, is_whole, whole}

abbrev read_as : Cartridge → Result Cartridge Refusal
read_as c = Ok c

given_is : (r : Result Cartridge Refusal) (c : Cartridge) → given r ≡ Some c → r ≡ Ok c
given_is (Ok c') c e = let same : c' ≡ c = cc e in ap (λ (x : Cartridge). read_as x) same
given_is (Err why) c e = absurd (cc e)

module _ {D : Type 0} (disk : Ghosts D) where
  settled_reads : (v : View D) → v.doubt ≡ Settled → (d : Files) → held_by v (Some d) ≡ given (image_by d (Some v.reads))
  settled_reads v settled d = ap (λ (x : Doubt). given (image_by d (Some (reading_by x v.base v.reads (header v.room.limits d.cm))))) settled

  told_by : (v : View D) → v.doubt ≡ Settled → (c : Cartridge) (o : Option Files) → held_by v o ≡ Some c
      → (d : Files) × (o ≡ Some d) × (image_by d (Some v.reads) ≡ Ok c)
  told_by v settled c None is = absurd (cc is)
  told_by v settled c (Some d) is = (d, refl, given_is (image_by d (Some v.reads)) c (sym (settled_reads v settled d) ∙ is))

  -- where the cartridge is told, its files are, and it is what they mean
  pub told_files : (v : View D) → v.doubt ≡ Settled → (c : Cartridge) → held_of disk v ≡ Some c
      → (d : Files) × (disk.held v.slots.disk ≡ Some d) × (image_by d (Some v.reads) ≡ Ok c)
  told_files v settled c is = told_by v settled c (disk.held v.slots.disk) is

  -- what a tape without doubt knows of the files that the disk tells
  pub tells_of : (v : View D) → IsKept disk v → v.doubt ≡ Settled → (d : Files) → disk.held v.slots.disk ≡ Some d
      → Tells Settled v (disk.leaves v.slots.disk) d
  tells_of v kept settled d is = subst (λ (o : Doubt). Tells o v (disk.leaves v.slots.disk) d) settled (kept.tells d is)

  -- the cartridge that reads is that of all items
  pub held_whole : (v : View D) (kept : IsKept disk v) (settled : v.doubt ≡ Settled) (d : Files) (is : disk.held v.slots.disk ≡ Some d)
      → held_of disk v ≡ Some (whole (tells_of v kept settled d is).0)
  held_whole v kept settled d is =
      ap (λ (o : Option Files). held_by v o) is ∙ settled_reads v settled d ∙ ap given (is_whole (tells_of v kept settled d is).0)

  -- every crash leaves what counts
  pub left_counted : (v : View D) (kept : IsKept disk v) (settled : v.doubt ≡ Settled) (d : Files) (is : disk.held v.slots.disk ≡ Some d) (c : Cartridge)
      → LeavesOn disk v.room.limits v.slots.disk c → c ≡ counted (tells_of v kept settled d is).0
  left_counted v kept settled d is c left =
      let h = tells_of v kept settled d is in
      same_cartridge _ (counted h.0) c (agreed_opens h.0 left.0 (h.0.agree left.0 left.1) (h.2 left.0 left.1)) left.2

  -- also with the reference that reads, where the header has it
  pub left_known : (v : View D) (kept : IsKept disk v) (settled : v.doubt ≡ Settled) → v.base.vcr ≡ v.reads.vcr → (d : Files) (is : disk.held v.slots.disk ≡ Some d)
      (image : Cartridge) → LeavesOf disk v image → image ≡ counted (tells_of v kept settled d is).0
  left_known v kept settled same d is image left =
      let one : left.0 ≡ counted (tells_of v kept settled d is).0 = left_counted v kept settled d is left.0 left.1 in
      ⊎_elim
      (λ (it : image ≡ left.0). it ∙ one)
      (λ (ahead : (left.0.vcr ≤ v.reads.vcr) × (image ≡ with_reference v.reads.vcr left.0)).
      ahead.1 ∙ same_reference v.reads.vcr left.0 (sym same ∙ sym (ap (λ (x : Cartridge). x.vcr) one)) ∙ one)
      left.2

  sure_by : (v : View D) → IsKept disk v → IsSteady v → (o : Option Cartridge) → held_of disk v ≡ o → IsSettled o (LeavesOf disk v)
  sure_by v kept steady None is = tt
  sure_by v kept steady (Some c) is = λ image left.
      let told = told_files v steady.doubt c is in
      let h = tells_of v kept steady.doubt told.0 told.1 in
      let is_c : c ≡ whole h.0 = same_Some c (whole h.0) (sym is ∙ held_whole v kept steady.doubt told.0 told.1) in
      let is_left : image ≡ counted h.0 = left_known v kept steady.doubt steady.vcr told.0 told.1 image left in
      record {
        vcr = ap (λ (x : Cartridge). x.vcr) is_left ∙ steady.vcr ∙ ap (λ (x : Cartridge). x.vcr) (sym is_c);
        note_ip = ap (λ (x : Cartridge). x.note_ip) is_left ∙ sym h.0.note_ip ∙ ap (λ (x : Cartridge). x.note_ip) (sym is_c);
        note_dp = ap (λ (x : Cartridge). x.note_dp) is_left ∙ sym h.0.note_dp ∙ ap (λ (x : Cartridge). x.note_dp) (sym is_c);
      }

  -- the reference and the attributes are durable
  pub is_sure : (v : View D) → IsKept disk v → IsSteady v → IsSure disk v
  is_sure v kept steady = sure_by v kept steady (held_of disk v) refl

  -- a tape whose header is known leaves the reference and attributes as they read
  pub is_sure_at : (v w : View D) → v ≡ w → IsKept disk v → IsSteady w → IsSure disk w
  is_sure_at v w is kept steady = is_sure w (subst (λ (x : View D). IsKept disk x) is kept) steady

  -- a cartridge that reads is that of all items in files that the disk tells
  pub held_is_whole : (v : View D) (kept : IsKept disk v) (settled : v.doubt ≡ Settled) (c : Cartridge) → held_of disk v ≡ Some c
      → (d : Files) × (is : disk.held v.slots.disk ≡ Some d) × (c ≡ whole (tells_of v kept settled d is).0)
  held_is_whole v kept settled c is =
      let told = told_files v settled c is in
      (told.0, told.1, same_Some c _ (sym is ∙ held_whole v kept settled told.0 told.1))

  -- the reference that reads
  pub vcr_is : (v w : View D) (a : View D) → v ≡ w → IsKept disk v → w.doubt ≡ Settled → held_of disk w ≡ held_of disk a
      → (c : Cartridge) → held_of disk a ≡ Some c → v.reads.vcr ≡ c.vcr
  vcr_is v w a is kept settled held c was =
      let t = held_is_whole v kept (ap (λ (x : View D). x.doubt) is ∙ settled) c (ap (λ (x : View D). held_of disk x) is ∙ held ∙ was) in
      ap (λ (x : Cartridge). x.vcr) (sym t.2)

  note_by : (part : Part) (s : SlotValue) (ip dp : List Item) → (half_of part s).note ≡ note_of part (cartridge_of s ip dp)
  note_by Ip s ip dp = refl
  note_by Dp s ip dp = refl

  -- the attribute that the value says is that of the cartridge
  pub note_is : (part : Part) (v w : View D) (a : View D) → v ≡ w → IsKept disk v → w.doubt ≡ Settled → held_of disk w ≡ held_of disk a
      → (c : Cartridge) → held_of disk a ≡ Some c → (half_of part v.reads).note ≡ note_of part c
  note_is part v w a is kept settled held c was =
      let t = held_is_whole v kept (ap (λ (x : View D). x.doubt) is ∙ settled) c (ap (λ (x : View D). held_of disk x) is ∙ held ∙ was) in
      note_by part v.reads _ _ ∙ ap (λ (x : Cartridge). note_of part x) (sym t.2)

  abbrev pub lost : View D → Option Place → ℕ → List (ℕ × slot.View D) → View D
  lost v head faults past = record {
    slots = v.slots;
    room = v.room;
    base = v.base;
    reads = v.reads;
    doubt = v.doubt;
    head = head;
    faults = faults;
    opened = v.opened;
    past = past;
  }

  suits_in : (v : View D) (head : Option Place) (faults : ℕ) (past : List (ℕ × slot.View D)) (o : Doubt) → Suits o v → Suits o (lost v head faults past)
  suits_in v head faults past Settled h = h
  suits_in v head faults past (Open value reads) h = h

  tells_in : (v : View D) (head : Option Place) (faults : ℕ) (past : List (ℕ × slot.View D)) (o : Doubt) (d : Files) → Tells o v (disk.leaves v.slots.disk) d
      → Tells o (lost v head faults past) (disk.leaves v.slots.disk) d
  tells_in v head faults past Settled d h = h
  tells_in v head faults past (Open value reads) d h = h

  held_lost : (v : View D) (head : Option Place) (faults : ℕ) (past : List (ℕ × slot.View D)) (o : Option Files)
      → held_by (lost v head faults past) o ≡ held_by v o
  held_lost v head faults past None = refl
  held_lost v head faults past (Some d) = refl

  -- the head stands elsewhere, or a fault more is counted; and other moments are past
  pub kept_head : (v : View D) (head : Option Place) (faults : ℕ) (past : List (ℕ × slot.View D)) → IsKept disk v
      → AreEarlier disk past (disk.commands v.slots.disk) → IsWithin (held_of disk v) head
      → IsKept disk (lost v head faults past)
  kept_head v head faults past kept early within = record {
    limits = kept.limits;
    holds = kept.holds;
    suits = suits_in v head faults past v.doubt kept.suits;
    reached = kept.reached;
    always = kept.always;
    past = early;
    within = λ at c is told. within at c is (sym (held_lost v head faults past (disk.held v.slots.disk)) ∙ told);
    tells = λ d is. tells_in v head faults past v.doubt d (kept.tells d is);
  }

  -- a command that leaves the header known leaves the attributes sure
  pub is_sure_when : {T E : Type 0} (r : Result T E) (v w : View D) → v ≡ w → IsKept disk v → OnOk r (IsSteady w) → OnOk r (IsSure disk w)
  is_sure_when (Ok x) v w is kept settled = is_sure_at v w is kept settled
  is_sure_when (Err why) v w is kept settled = tt

  -- past moments are early by another name of the view too
  pub early_of : (v w : View D) (past : List (ℕ × slot.View D)) → v ≡ w → AreEarlier disk past (disk.commands w.slots.disk)
      → AreEarlier disk past (disk.commands v.slots.disk)
  early_of v w past is early = subst (λ (x : View D). AreEarlier disk past (disk.commands x.slots.disk)) (sym is) early
