-- What is true of every tape stays true.
use Rattle.std.proofs.Common.{◌≡◌, ℕ, ◌≤◌, ⊎_elim, List, take, Option, Some, None, refl, sym, ap, ◌∙◌, subst, arith}
use Rattle.tape_types.specs.declared.cartridges.Cartridge.{Cartridge}
use Rattle.tape_types.specs.declared.cartridges.Limits.{Limits}
use Rattle.crash_steps.specs.Crashes.{NothingNew}
use Rattle.byte_disk.specs.Files.{Files}
use Rattle.byte_disk.specs.declared.disk.ByteDisk.{Ghosts}
use Rattle.image_slots.specs.Pieces.{CrashesIn}
use Rattle.image_slots.specs.State as slot
use Rattle.image_slots.proofs.Chains.{old_image}
use Rattle.image_format.specs.declared.values.SlotValue.{SlotValue}
use Rattle.image_format.specs.Images.{Opens, header, header_by}
use Rattle.image_format.specs.Offsets.{Offsets}
use Rattle.image_tape.specs.declared.doubt.Doubt.{Doubt}
use Rattle.image_tape.specs.declared.doubt.Doubt.TheVariants.{Settled, Open}
use Rattle.image_tape.specs.Tape.{IsKept, Lie, Stands, Suits, Tells, View, held_by, held_of}
use Rattle.image_tape.proofs.Lifting.{goes_on}
use Rattle.image_tape.proofs.Moments.{earlier_on}
use Rattle.image_tape.proofs.Opened.{agreed_opens, counted}

-- the same tape over another disk
abbrev pub with_slots : {D : Type 0} → slot.View D → View D → View D
with_slots s v = record {
  slots = s;
  room = v.room;
  base = v.base;
  reads = v.reads;
  doubt = v.doubt;
  head = v.head;
  faults = v.faults;
  opened = v.opened;
  past = v.past;
}

-- over files with the same partitions, where a crash leaves the partitions as it did
pub stands_over : {limits : Limits} {said reads : SlotValue} {room : Offsets} (la lb : Files → Type 0) (d e : Files) → Stands limits said reads room la d
    → e.ip ≡ d.ip → e.dp ≡ d.dp
    → ((left : Files) → lb left → (before : Files) × la before × (left.ip ≡ before.ip) × (left.dp ≡ before.dp))
    → Stands limits said reads room lb e
stands_over {said = said} {reads = reads} {room = room} la lb d e st same_ip same_dp back = record {
  ip = st.ip;
  dp = st.dp;
  in_ip = subst (λ (file : List ℕ). Lie said.ip reads.ip room.ip file st.ip) (sym same_ip) st.in_ip;
  in_dp = subst (λ (file : List ℕ). Lie said.dp reads.dp room.dp file st.dp) (sym same_dp) st.in_dp;
  agree = λ left is.
      let was = back left is in
      let agree = st.agree was.0 was.1 in
      record {
        ip = ap (λ (file : List ℕ). take said.ip.end file) was.2 ∙ agree.ip ∙ ap (λ (file : List ℕ). take said.ip.end file) (sym same_ip);
        dp = ap (λ (file : List ℕ). take said.dp.end file) was.3 ∙ agree.dp ∙ ap (λ (file : List ℕ). take said.dp.end file) (sym same_dp);
      };
  vcr = st.vcr;
  note_ip = st.note_ip;
  note_dp = st.note_dp;
  fits_ip = st.fits_ip;
  fits_dp = st.fits_dp;
}

-- where a crash leaves no more
stands_less : {limits : Limits} {said reads : SlotValue} {room : Offsets} (la lb : Files → Type 0) (d : Files) → Stands limits said reads room la d
    → ((left : Files) → lb left → la left) → Stands limits said reads room lb d
stands_less la lb d st less = stands_over la lb d d st refl refl (λ left is. (left, less left is, refl, refl))

tells_less : {D : Type 0} (doubt : Doubt) (v : View D) (s : slot.View D) (la lb : Files → Type 0) (d : Files)
    → (doubt ≡ Settled → s.value ≡ v.slots.value) → ((left : Files) → lb left → la left) → Tells doubt v la d → Tells doubt (with_slots s v) lb d
tells_less Settled v s la lb d value less h = (
  stands_less la lb d h.0 less,
  h.1,
  λ left is. h.2 left (less left is),
  subst (λ (bytes : List ℕ). header_by v.room.limits (Some bytes) ≡ Some v.base) (sym (value refl)) h.3,
)
tells_less (Open after reads) v s la lb d value less h = (
  stands_less la lb d h.0 less,
  stands_less la lb d h.1 less,
  h.2,
  λ left is. h.3 left (less left is),
  h.4,
  h.5,
)

-- each image opens
pub image_opens : {D : Type 0} (doubt : Doubt) (v : View D) (leaves : Files → Type 0) (d : Files) → Tells doubt v leaves d → (left : Files) → leaves left
    → (c : Cartridge) × Opens v.room.limits left c
image_opens Settled v leaves d h left is = (counted h.0, agreed_opens h.0 left (h.0.agree left is) (h.2 left is))
image_opens (Open after reads) v leaves d h left is = ⊎_elim
    (λ (old : header v.room.limits left.cm ≡ Some v.base). (counted h.0, agreed_opens h.0 left (h.0.agree left is) old))
    (λ (new : header v.room.limits left.cm ≡ Some after). (counted h.1, agreed_opens h.1 left (h.1.agree left is) new))
    (h.3 left is)

suits_less : {D : Type 0} (doubt : Doubt) (v : View D) (s : slot.View D) → (doubt ≡ Settled → s.known ≡ v.slots.known) → Suits doubt v → Suits doubt (with_slots s v)
suits_less Settled v s known h = known refl ∙ h
suits_less (Open after reads) v s known h = h

-- what reads doesn't hang on what is known of the disk
held_over : {D : Type 0} (v : View D) (s : slot.View D) (o : Option Files) → held_by (with_slots s v) o ≡ held_by v o
held_over v s None = refl
held_over v s (Some d) = refl

module _ {D : Type 0} (disk : Ghosts D) where
  -- a tape over a disk that reads as before has the same cartridge
  pub held_look : (v : View D) (s : slot.View D) → disk.held s.disk ≡ disk.held v.slots.disk → held_of disk (with_slots s v) ≡ held_of disk v
  held_look v s held = held_over v s (disk.held s.disk) ∙ ap (λ (o : Option Files). held_by v o) held

  -- after commands that only read
  pub kept_look : (v : View D) (s : slot.View D) → IsKept disk v → (v.doubt ≡ Settled → s.known ≡ v.slots.known)
      → (v.doubt ≡ Settled → s.value ≡ v.slots.value) → disk.held s.disk ≡ disk.held v.slots.disk
      → disk.commands v.slots.disk ≤ disk.commands s.disk → CrashesIn disk NothingNew v.slots.disk s.disk
      → IsKept disk (with_slots s v)
  kept_look v s kept known value held later crash = record {
    limits = kept.limits;
    holds = kept.holds;
    suits = suits_less v.doubt v s known kept.suits;
    reached = omega (arith, kept.reached, later);
    always = goes_on disk v.room.limits v.opened v.slots.disk s.disk kept.reached kept.always
        (λ e is.
        let was = sym held ∙ is in (
          e,
          was,
          crash,
          λ before left left_before same.
              subst (λ (f : Files). (c : Cartridge) × Opens v.room.limits f c) (sym same)
              (image_opens v.doubt v (disk.leaves v.slots.disk) e (kept.tells e was) before left_before),
        ));
    past = earlier_on disk v.past (disk.commands v.slots.disk) (disk.commands s.disk) later kept.past;
    within = λ at c head told. kept.within at c head (sym (held_look v s held) ∙ told);
    tells = λ d is.
        tells_less v.doubt v s (disk.leaves v.slots.disk) (disk.leaves s.disk) d value (old_image crash) (kept.tells d (sym held ∙ is));
  }
