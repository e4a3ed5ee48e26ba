-- A value is set, or was to be set.
use Rattle.std.proofs.Common.{◌≡◌, ℕ, ◌+◌, ◌≤◌, ◌⊎◌, ⊎_elim, inl, inr, Bool, true, false, List, ◌++◌, take, drop, Option, Some, None, Result, Ok, Err, refl, sym, ap, ◌∙◌, subst, arith}
use Rattle.std.specs.Prelude.{◌&&◌, if◌then◌else◌, slice_range}
use Rattle.image_format.specs.declared.values.Half.{Half}
use Rattle.std.specs.Int.{w64, to_be_bytes}
use Rattle.tape_types.specs.declared.cartridges.Cartridge.{Cartridge}
use Rattle.tape_types.specs.declared.cartridges.Limits.{Limits}
use Rattle.tape_drive.specs.declared.drive.DriveErr.{DriveErr}
use Rattle.byte_disk.specs.Files.{Files}
use Rattle.byte_disk.specs.declared.disk.ByteDisk.{Ghosts}
use Rattle.image_slots.specs.Pieces.{HasOne, WithinSet}
use Rattle.image_slots.specs.Slots.{HasValue, serial_of}
use Rattle.image_slots.specs.State as slot
use Rattle.image_slots.specs.declared.errors.SetErr.{SetErr}
use Rattle.image_slots.specs.declared.errors.SetErr.TheVariants.{Serial}
use Rattle.image_slots.specs.declared.known.Known.TheVariants.{Steady}
use Rattle.image_slots.proofs.Chains.{no_step, same_files, told_before}
use Rattle.image_slots.proofs.Choosing.{value_chosen}
use Rattle.image_format.specs.declared.refusal.Refusal.{Refusal}
use Rattle.image_format.specs.declared.values.SlotValue.{SlotValue}
use Rattle.image_format.specs.Images.{Opens, fits, fitting, header, header_by, image_by, joined}
use Rattle.image_format.specs.Offsets.{Offsets}
use Rattle.image_format.specs.Records.{items_in}
use Rattle.image_format.specs.Values.{IsSized, half_of, number_at, value_by, value_bytes}
use Rattle.image_format.proofs.ImageLemmas.{header_found}
use Rattle.image_format.proofs.ValueLemmas.{value_reads}
use Rattle.image_tape.specs.declared.doubt.Doubt.{Doubt}
use Rattle.image_tape.specs.declared.doubt.Doubt.TheVariants.{Settled, Open}
use Rattle.image_tape.specs.Halves.{with_serial}
use Rattle.image_tape.specs.Steps.{FromTo, IsCommit, IsTaken, MayStand}
use Rattle.image_tape.specs.Tape.{Agree, AheadOn, AlwaysOpens, CrashesAt, Holds, IsKept, IsTold, SaysOne, Stands, Tells, View, cut_to, given, held_by, reading_by, says, with_reference}
use Rattle.image_tape.proofs.Heads.{nowhere}
use Rattle.image_tape.proofs.Lifting.{goes_on, lifted, opened_left, same_cartridge, same_reference}
use Rattle.image_tape.proofs.Moments.{earlier_on}
use Rattle.image_tape.proofs.Opened.{agreed_opens, counted, is_counted}
use Rattle.image_tape.proofs.Surely.{header_of_value}
use Rattle.image_tape.proofs.Telling.{tells_of}
use Rattle.image_tape.proofs.Upkeep.{stands_over, with_slots}

-- the bytes of a value are its serial number and the others
next_is : (limits : Limits) (old : List ℕ) (base value : SlotValue) (serial : ℕ) (rest : List ℕ) → serial_of old ≡ base.serial
    → serial ≡ base.serial + 1 → rest ≡ drop 8 (value_bytes (with_serial serial value)) → slot.next_value old rest ≡ value_bytes (with_serial serial value)
next_is limits old base value serial rest numbered next is =
    let n : serial_of old + 1 ≡ serial = omega (arith, numbered, next) in
    ap (λ (k : ℕ). to_be_bytes w64 k ++ rest) n ∙ ap (λ (l : List ℕ). to_be_bytes w64 serial ++ l) is

-- a value with another serial number says the same of the partitions
stands_numbered : {limits : Limits} {value reads : SlotValue} {room : Offsets} {leaves : Files → Type 0} {d : Files} (serial : ℕ)
    → Stands limits value reads room leaves d → Stands limits (with_serial serial value) reads room leaves d
stands_numbered serial st = record {
  ip = st.ip;
  dp = st.dp;
  in_ip = st.in_ip;
  in_dp = st.in_dp;
  agree = λ image left. let a = st.agree image left in record { ip = a.ip; dp = a.dp };
  vcr = st.vcr;
  note_ip = st.note_ip;
  note_dp = st.note_dp;
  fits_ip = st.fits_ip;
  fits_dp = st.fits_dp;
}

-- the header of what was written
written_says : (limits : Limits) (cm : List ℕ) (value : SlotValue) {reads : SlotValue} {room : Offsets} {leaves : Files → Type 0} {d : Files}
    → Stands limits value reads room leaves d → IsSized value → HasValue cm (value_bytes value) → header limits cm ≡ Some value
written_says limits cm value st sized has = header_found limits cm value (record {
  raw = value_bytes value;
  counts = has;
  told = value_reads value sized;
  ip = st.fits_ip;
  dp = st.fits_dp;
})

same_image_by : (s : Option SlotValue) (d e : Files) → e.ip ≡ d.ip → e.dp ≡ d.dp → image_by e s ≡ image_by d s
same_image_by None d e ip dp = refl
same_image_by (Some s) d e ip dp =
    ap (λ (file : List ℕ). joined s (items_in s.ip file) (items_in s.dp e.dp)) ip
    ∙ ap (λ (file : List ℕ). joined s (items_in s.ip d.ip) (items_in s.dp file)) dp

given_of : (r : Result Cartridge Refusal) (c : Cartridge) → r ≡ Ok c → given r ≡ Some c
given_of r c is = ap given is

-- what reads by one of two values
reads_one : (says : Bool) (reads after : SlotValue) (d : Files) (from to : Cartridge) → image_by d (Some reads) ≡ Ok from → image_by d (Some after) ≡ Ok to
    → (given (image_by d (Some (if says then reads else after))) ≡ Some from) ⊎ (given (image_by d (Some (if says then reads else after))) ≡ Some to)
reads_one true reads after d from to is will = inl (given_of (image_by d (Some reads)) from is)
reads_one false reads after d from to is will = inr (given_of (image_by d (Some after)) to will)

module _ {D : Type 0} (disk : Ghosts D) (v : View D) (s : slot.View D) (value reads : SlotValue) (rest : List ℕ) (r : Result (Unit {0}) SetErr)
    (kept : IsKept disk v) (settled : v.doubt ≡ Settled) (sized : IsSized value)
    (stands : (d : Files) → disk.held v.slots.disk ≡ Some d → Stands v.room.limits value reads (cut_to reads v.room) (disk.leaves v.slots.disk) d)
    (is_next : (d : Files) → disk.held v.slots.disk ≡ Some d → slot.next_value v.slots.value rest ≡ value_bytes value)
    (done : slot.IsSet disk rest r v.slots s) where
  pub settled_tells : (d : Files) → disk.held v.slots.disk ≡ Some d → Tells Settled v (disk.leaves v.slots.disk) d
  settled_tells d is = subst (λ (o : Doubt). Tells o v (disk.leaves v.slots.disk) d) settled (kept.tells d is)

  abbrev st0 : (d : Files) → disk.held v.slots.disk ≡ Some d → Stands v.room.limits v.base v.reads v.room (disk.leaves v.slots.disk) d
  st0 d is = (settled_tells d is).0

  -- the header of what reads, and of what is left
  says_one : (d image : Files) → disk.held v.slots.disk ≡ Some d → HasOne v.slots.value (slot.next_value v.slots.value rest) image
      → SaysOne v.room.limits v.base value image
  says_one d image is (inl old) = inl (header_of_value v.room.limits image.cm v.slots.value v.base old (settled_tells d is).3)
  says_one d image is (inr new) = inr (written_says v.room.limits image.cm value (stands d is) sized
      (subst (λ (l : List ℕ). HasValue image.cm l) (is_next d is) new))

  agree_back : {said other : SlotValue} {room : Offsets} (d : Files) → Stands v.room.limits said other room (disk.leaves v.slots.disk) d
      → (before left : Files) → disk.leaves v.slots.disk before → left.ip ≡ before.ip → left.dp ≡ before.dp → Agree said d left
  agree_back {said = said} d st before left was ip dp =
      let a = st.agree before was in
      record {
        ip = ap (λ (file : List ℕ). take said.ip.end file) ip ∙ a.ip;
        dp = ap (λ (file : List ℕ). take said.dp.end file) dp ∙ a.dp;
      }

  -- what is left opens as before, or as what was to be
  pub one_opens : (d : Files) (is : disk.held v.slots.disk ≡ Some d) (before left : Files) → disk.leaves v.slots.disk before
      → WithinSet v.slots.value (slot.next_value v.slots.value rest) before left
      → (c : Cartridge) × Opens v.room.limits left c × ((c ≡ counted (st0 d is)) ⊎ (c ≡ counted (stands d is)))
  one_opens d is before left was (ip, dp, one) = ⊎_elim
      (λ (old : header v.room.limits left.cm ≡ Some v.base).
      (counted (st0 d is), agreed_opens (st0 d is) left (agree_back d (st0 d is) before left was ip dp) old, inl refl))
      (λ (new : header v.room.limits left.cm ≡ Some value).
      (counted (stands d is), agreed_opens (stands d is) left (agree_back d (stands d is) before left was ip dp) new, inr refl))
      (says_one d left is one)

  before_opens : (d : Files) (is : disk.held v.slots.disk ≡ Some d) (before : Files) → disk.leaves v.slots.disk before
      → Opens v.room.limits before (counted (st0 d is))
  before_opens d is before was = agreed_opens (st0 d is) before ((st0 d is).agree before was) ((settled_tells d is).2 before was)

  told_set : (e : Files) → disk.held s.disk ≡ Some e → (d : Files) × (disk.held v.slots.disk ≡ Some d) × (e.ip ≡ d.ip) × (e.dp ≡ d.dp)
      × HasOne v.slots.value (slot.next_value v.slots.value rest) e
  told_set e is =
      let was = told_before (disk.held v.slots.disk) (disk.held s.disk) done.untold e is in
      let t = done.told was.0 was.1 in
      let same : e ≡ t.0 = same_files (disk.held s.disk) t.0 e t.1 is in (
        was.0,
        was.1,
        ap (λ (f : Files). f.ip) same ∙ t.2,
        ap (λ (f : Files). f.dp) same ∙ t.3,
        subst (λ (f : Files). HasOne v.slots.value (slot.next_value v.slots.value rest) f) (sym same) t.4,
      )

  always_set : AlwaysOpens disk v.room.limits v.opened s.disk
  always_set = goes_on disk v.room.limits v.opened v.slots.disk s.disk kept.reached kept.always
      (λ e is.
      let was = told_set e is in (
        was.0,
        was.1,
        done.crash was.0 was.1,
        λ before left left_before within.
            let one = one_opens was.0 was.1 before left left_before within in (one.0, one.1),
      ))

  left_from : (d : Files) → disk.held v.slots.disk ≡ Some d → (left : Files) → disk.leaves s.disk left
      → (before : Files) × disk.leaves v.slots.disk before × (left.ip ≡ before.ip) × (left.dp ≡ before.dp)
  left_from d is left now = let was = (done.crash d is).now left now in (was.0, was.1, was.2.0, was.2.1)

  left_one : (d : Files) → disk.held v.slots.disk ≡ Some d → (left : Files) → disk.leaves s.disk left
      → HasOne v.slots.value (slot.next_value v.slots.value rest) left
  left_one d is left now = let was = (done.crash d is).now left now in was.2.2

  -- the value is set
  abbrev pub set_view : Offsets → Doubt → View D
  set_view room doubt = record {
    slots = s;
    room = room;
    base = value;
    reads = reads;
    doubt = doubt;
    head = None;
    faults = v.faults;
    opened = v.opened;
    past = v.past;
  }

  pub kept_set : slot.KnownAreLeft disk → slot.IsKept disk s → s ≡ slot.after_set (Ok tt) rest s.disk v.slots → Holds (cut_to reads v.room) reads
      → IsKept disk (set_view (cut_to reads v.room) Settled)
  kept_set left_known slots_kept after holds =
      let steady : s.known ≡ Steady = ap (λ (x : slot.View D). x.known) after in
      let new_value : s.value ≡ slot.next_value v.slots.value rest = ap (λ (x : slot.View D). x.value) after in
      record {
        limits = kept.limits;
        holds = holds;
        suits = steady;
        reached = omega (arith, kept.reached, done.count.later);
        always = always_set;
        past = earlier_on disk v.past (disk.commands v.slots.disk) (disk.commands s.disk) done.count.later kept.past;
        within = nowhere _;
        tells = λ e is.
            let was = told_set e is in
            let known = left_known s slots_kept steady e is in
            let value_is : s.value ≡ value_bytes value = new_value ∙ is_next was.0 was.1 in
            let st1 = stands was.0 was.1 in
            let head : header v.room.limits e.cm ≡ Some value =
            written_says v.room.limits e.cm value st1 sized (subst (λ (l : List ℕ). HasValue e.cm l) value_is known.0) in (
              stands_over (disk.leaves v.slots.disk) (disk.leaves s.disk) was.0 e st1 was.2 was.3 (left_from was.0 was.1),
              head,
              λ left now. written_says v.room.limits left.cm value st1 sized (subst (λ (l : List ℕ). HasValue left.cm l) value_is (known.1 left now)),
              sym (ap (header_by v.room.limits) (value_chosen e.cm s.value known.0)) ∙ head,
            );
      }

  -- whether it is set is open
  abbrev pub open_view : View D
  open_view = record {
    slots = s;
    room = v.room;
    base = v.base;
    reads = v.reads;
    doubt = Open value reads;
    head = None;
    faults = v.faults;
    opened = v.opened;
    past = v.past;
  }

  pub kept_open : Holds (cut_to reads v.room) reads → value.serial ≡ v.base.serial + 1 → value.vcr ≡ reads.vcr → IsKept disk open_view
  kept_open holds next same_vcr = record {
    limits = kept.limits;
    holds = kept.holds;
    suits = holds;
    reached = omega (arith, kept.reached, done.count.later);
    always = always_set;
    past = earlier_on disk v.past (disk.commands v.slots.disk) (disk.commands s.disk) done.count.later kept.past;
    within = nowhere _;
    tells = λ e is.
        let was = told_set e is in (
          stands_over (disk.leaves v.slots.disk) (disk.leaves s.disk) was.0 e (st0 was.0 was.1) was.2 was.3 (left_from was.0 was.1),
          stands_over (disk.leaves v.slots.disk) (disk.leaves s.disk) was.0 e (stands was.0 was.1) was.2 was.3 (left_from was.0 was.1),
          says_one was.0 e was.1 was.4,
          λ left now. says_one was.0 left was.1 (left_one was.0 was.1 left now),
          next,
          same_vcr,
        );
  }

  -- what it makes of the cartridge
  module _ (d : Files) (from to : Cartridge) (is : disk.held v.slots.disk ≡ Some d) (from_is : image_by d (Some v.base) ≡ Ok from) (to_is : image_by d (Some value) ≡ Ok to) where
    is_from : counted (st0 d is) ≡ from
    is_from = same_cartridge (image_by d (Some v.base)) from (counted (st0 d is)) from_is (is_counted (st0 d is))

    is_to : counted (stands d is) ≡ to
    is_to = same_cartridge (image_by d (Some value)) to (counted (stands d is)) to_is (is_counted (stands d is))

    now_told : IsTold disk s.disk
    now_told = let t = done.told d is in (t.0, t.1)

    abbrev Came : Cartridge → Type 0
    Came c = (was : Cartridge) × AheadOn disk v.room.limits v.reads.vcr v.slots.disk was × FromTo (with_reference v.reads.vcr from) to was c

    -- the new value comes of the old one, with the reference that read
    came_new : (before : Files) → disk.leaves v.slots.disk before → (c : Cartridge) → c ≡ counted (stands d is) → Came c
    came_new before was c same = (
      with_reference v.reads.vcr (counted (st0 d is)),
      (counted (st0 d is), (before, was, before_opens d is before was, (d, is)), inr ((st0 d is).vcr, refl)),
      inr (ap (λ (x : Cartridge). with_reference v.reads.vcr x) is_from, same ∙ is_to),
    )

    each_set : (before left : Files) (c : Cartridge) → disk.leaves v.slots.disk before → WithinSet v.slots.value (slot.next_value v.slots.value rest) before left
        → Opens v.room.limits left c → IsTold disk v.slots.disk → Came c
    each_set before left c was within opens told =
        let one = one_opens d is before left was within in
        let same : c ≡ one.0 = same_cartridge _ one.0 c one.1 opens in
        ⊎_elim
        (λ (old : one.0 ≡ counted (st0 d is)). (
          counted (st0 d is),
          opened_left disk v.room.limits v.reads.vcr v.slots.disk (counted (st0 d is)) (before, was, before_opens d is before was, (d, is)),
          inl (same ∙ old),
        ))
        (λ (new : one.0 ≡ counted (stands d is)). came_new before was c (same ∙ new))
        one.2

    -- where it is open which of the two there is, the reference reads as before
    ahead_open : v.reads.vcr ≤ value.vcr → (left : Files) (c : Cartridge) → disk.leaves s.disk left → Opens v.room.limits left c
        → IsTold disk v.slots.disk → c.vcr ≤ v.reads.vcr → Came (with_reference v.reads.vcr c)
    ahead_open later left c now opens told le =
        let came = (done.crash d is).now left now in
        let one = one_opens d is came.0 left came.1 came.2 in
        let same : c ≡ one.0 = same_cartridge _ one.0 c one.1 opens in
        ⊎_elim
        (λ (old : one.0 ≡ counted (st0 d is)). (
          with_reference v.reads.vcr (counted (st0 d is)),
          (counted (st0 d is), (came.0, came.1, before_opens d is came.0 came.1, (d, is)), inr ((st0 d is).vcr, refl)),
          inl (ap (λ (x : Cartridge). with_reference v.reads.vcr x) (same ∙ old)),
        ))
        (λ (new : one.0 ≡ counted (stands d is)).
        let number : c.vcr ≡ value.vcr = ap (λ (x : Cartridge). x.vcr) (same ∙ new) in
        came_new came.0 came.1 (with_reference v.reads.vcr c) (same_reference v.reads.vcr c (omega (arith, number, le, later)) ∙ same ∙ new))
        one.2

    -- where it is set it has the reference that reads
    ahead_set : value.vcr ≡ reads.vcr → ((left : Files) → disk.leaves s.disk left → header v.room.limits left.cm ≡ Some value)
        → (left : Files) (c : Cartridge) → disk.leaves s.disk left → Opens v.room.limits left c
        → IsTold disk v.slots.disk → c.vcr ≤ reads.vcr → Came (with_reference reads.vcr c)
    ahead_set same_vcr headed left c now opens told le =
        let came = (done.crash d is).now left now in
        let new = agreed_opens (stands d is) left (agree_back d (stands d is) came.0 left came.1 came.2.0 came.2.1) (headed left now) in
        let same : c ≡ counted (stands d is) = same_cartridge _ (counted (stands d is)) c new opens in
        came_new came.0 came.1 (with_reference reads.vcr c) (same_reference reads.vcr c (sym same_vcr ∙ sym (ap (λ (x : Cartridge). x.vcr) same)) ∙ same)

    crashes_open : v.reads.vcr ≤ value.vcr → CrashesAt disk v.room.limits (FromTo (with_reference v.reads.vcr from) to) v.reads.vcr v.slots.disk v.reads.vcr s.disk
    crashes_open later = lifted disk v.room.limits v.reads.vcr v.reads.vcr v.slots.disk s.disk (done.crash d is) (λ told. (d, is)) (λ told. now_told) each_set (ahead_open later)

    crashes_set : value.vcr ≡ reads.vcr → ((left : Files) → disk.leaves s.disk left → header v.room.limits left.cm ≡ Some value)
        → CrashesAt disk v.room.limits (FromTo (with_reference v.reads.vcr from) to) v.reads.vcr v.slots.disk reads.vcr s.disk
    crashes_set same_vcr headed = lifted disk v.room.limits v.reads.vcr reads.vcr v.slots.disk s.disk (done.crash d is) (λ told. (d, is)) (λ told. now_told) each_set (ahead_set same_vcr headed)

  pub is_set : (room : Offsets) (doubt : Doubt) → doubt ≡ Settled → room.limits ≡ v.room.limits → value.vcr ≡ reads.vcr
      → IsKept disk (set_view room doubt) → IsCommit {T = Unit {0}} {E = DriveErr} disk value reads (Ok tt) v (set_view room doubt)
  is_set room doubt sure same same_vcr set_kept = record {
    stays = record { limits = same; faults = refl; opened = refl };
    count = done.count;
    untold = done.untold;
    told = λ d from to is from_is to_is.
        let t = done.told d is in
        ap (λ (o : Option Files). held_by (set_view room doubt) o) t.1
        ∙ ap (λ (x : Doubt). given (image_by t.0 (Some (reading_by x value reads (header room.limits t.0.cm))))) sure
        ∙ ap given (same_image_by (Some reads) d t.0 t.2 t.3)
        ∙ given_of (image_by d (Some reads)) to to_is;
    crash = λ d from to is from_is to_is.
        let t = done.told d is in
        let headed = (tells_of disk (set_view room doubt) set_kept sure t.0 t.1).2 in
        crashes_set d from to is from_is to_is same_vcr (λ left now. subst (λ (l : Limits). header l left.cm ≡ Some value) same (headed left now));
  }

  pub is_open : (why : DriveErr) → v.reads.vcr ≤ value.vcr → IsCommit {T = Unit {0}} {E = DriveErr} disk value reads (Err why) v open_view
  is_open why later = record {
    stays = record { limits = refl; faults = refl; opened = refl };
    count = done.count;
    untold = done.untold;
    told = λ d from to is from_is to_is.
        let t = done.told d is in
        subst (λ (o : Option Files). (held_by open_view o ≡ Some from) ⊎ (held_by open_view o ≡ Some to)) (sym t.1)
        (reads_one (says v.base (header v.room.limits t.0.cm)) v.reads reads t.0 from to
        (same_image_by (Some v.reads) d t.0 t.2 t.3 ∙ from_is) (same_image_by (Some reads) d t.0 t.2 t.3 ∙ to_is));
    crash = λ d from to is from_is to_is. crashes_open d from to is from_is to_is later;
  }

-- nothing was set
not_set : {D T E : Type 0} (disk : Ghosts D) (v : View D) (value reads : SlotValue) (why : E) → IsKept disk v → v.doubt ≡ Settled
    → ((d : Files) → disk.held v.slots.disk ≡ Some d → Stands v.room.limits value reads (cut_to reads v.room) (disk.leaves v.slots.disk) d)
    → IsCommit {T = T} disk value reads (Err why) v v
not_set disk v value reads why kept settled stands = record {
  stays = record { limits = refl; faults = refl; opened = refl };
  count = record { later = omega arith; bound = omega arith };
  untold = λ none. none;
  told = λ d from to is from_is to_is. inl
      (ap (λ (o : Option Files). held_by v o) is
      ∙ ap (λ (x : Doubt). given (image_by d (Some (reading_by x v.base v.reads (header v.room.limits d.cm))))) settled
      ∙ given_of (image_by d (Some v.reads)) from from_is);
  crash = λ d from to is from_is to_is. no_step (disk.commands v.slots.disk) _ _ (λ image left. inl refl);
}

abbrev pub opened_as : Cartridge → Result Cartridge Refusal
opened_as c = Ok c

-- the serial number that a value's bytes tell
if_taken : (t : Bool) (x s : SlotValue) → (if t then Some x else None) ≡ Some s → x ≡ s
if_taken true x s e = cc e
if_taken false x s e = absurd (cc e)

number_by : (limits : Limits) (raw : List ℕ) (a b : Option Half) (s : SlotValue) → fitting limits (value_by raw a b) ≡ Some s → number_at raw 0 ≡ s.serial
number_by limits raw None b s e = absurd (cc e)
number_by limits raw (Some ip) None s e = absurd (cc e)
number_by limits raw (Some ip) (Some dp) s e = ap (λ (x : SlotValue). x.serial)
    (if_taken (fits limits.cap_ip ip && fits limits.cap_dp dp) (record { serial = number_at raw 0; vcr = number_at raw 8; ip = ip; dp = dp }) s e)

-- the serial number in a slot is the one of the value that it says
pub number_of : (limits : Limits) (raw : List ℕ) (s : SlotValue) → header_by limits (Some raw) ≡ Some s → serial_of raw ≡ s.serial
number_of limits raw s is = number_by limits raw (half_of (slice_range raw 16 104)) (half_of (slice_range raw 104 192)) s is

-- what is true of a value is true of its equal
at_inside : {X : Type 0} (P : X → Type 0) (v w : X) → v ≡ w → P w → P v
at_inside P v w is h = subst P (sym is) h

module _ {D : Type 0} (disk : Ghosts D) (v w : View D) (s : slot.View D) (value value' reads : SlotValue) (serial : ℕ) (bytes rest : List ℕ) (r : Result (Unit {0}) SetErr)
    (is : v ≡ w) (kept : IsKept disk v) (settled_w : w.doubt ≡ Settled) (stands_w : MayStand disk value reads w) (holds_w : Holds (cut_to reads w.room) reads)
    (next : serial ≡ v.base.serial + 1) (numbered : value' ≡ with_serial serial value) (sized : IsSized value') (encoded : bytes ≡ value_bytes value')
    (behind : rest ≡ drop 8 bytes) (done : slot.IsSet disk rest r v.slots s) where
  -- before a value is set it is known what the header says
  pub settled : v.doubt ≡ Settled
  settled = ap (λ (x : View D). x.doubt) is ∙ settled_w

  -- the value that is to be set would be right as the header's
  pub stands : MayStand disk value' reads v
  stands d told = subst (λ (x : SlotValue). Stands v.room.limits x reads (cut_to reads v.room) (disk.leaves v.slots.disk) d) (sym numbered)
      (stands_numbered serial (at_inside (λ (x : View D). MayStand disk value reads x) v w is stands_w d told))

  -- there is an offset for each record that would read
  pub holds : Holds (cut_to reads v.room) reads
  holds = at_inside (λ (x : View D). Holds (cut_to reads x.room) reads) v w is holds_w

  numbers : (d : Files) → disk.held v.slots.disk ≡ Some d → serial_of v.slots.value ≡ v.base.serial
  numbers d told =
      let h = subst (λ (o : Doubt). Tells o v (disk.leaves v.slots.disk) d) settled (kept.tells d told) in
      number_of v.room.limits v.slots.value v.base h.3

  pub is_next : (d : Files) → disk.held v.slots.disk ≡ Some d → slot.next_value v.slots.value rest ≡ value_bytes value'
  is_next d told =
      next_is v.room.limits v.slots.value v.base value serial rest (numbers d told) next
      (behind ∙ ap (λ (l : List ℕ). drop 8 l) encoded ∙ ap (λ (x : SlotValue). drop 8 (value_bytes x)) numbered)
      ∙ ap value_bytes (sym numbered)

  pub next_serial : value'.serial ≡ v.base.serial + 1
  next_serial = ap (λ (x : SlotValue). x.serial) numbered ∙ next

  -- a tape whose value was set is one
  pub commit_kept : slot.KnownAreLeft disk → slot.IsKept disk s → (room : Offsets) (doubt : Doubt) → room ≡ cut_to reads v.room → doubt ≡ v.doubt
      → r ≡ Ok tt → IsKept disk (set_view disk v s value' reads rest r kept settled sized stands is_next done room doubt)
  commit_kept left_known slots_kept room doubt cut same ok =
      subst (λ (x : Offsets). IsKept disk (record { slots = s; room = x; base = value'; reads = reads; doubt = doubt; head = None; faults = v.faults; opened = v.opened; past = v.past })) (sym cut)
      (subst (λ (x : Doubt). IsKept disk (record { slots = s; room = cut_to reads v.room; base = value'; reads = reads; doubt = x; head = None; faults = v.faults; opened = v.opened; past = v.past }))
      (sym (same ∙ settled))
      (kept_set disk v s value' reads rest r kept settled sized stands is_next done left_known slots_kept
      (done.after ∙ ap (λ (x : Result (Unit {0}) SetErr). slot.after_set x rest s.disk v.slots) ok) holds))

  same_number : value'.vcr ≡ value.vcr
  same_number = ap (λ (x : SlotValue). x.vcr) numbered

  -- a tape whose value was to be set, and perhaps is, is one
  pub commit_open : value.vcr ≡ reads.vcr → IsKept disk (open_view disk v s value' reads rest r kept settled sized stands is_next done)
  commit_open same_vcr = kept_open disk v s value' reads rest r kept settled sized stands is_next done holds next_serial (same_number ∙ same_vcr)

  -- a value says the same with another serial number
  numbered_by : (d : Files) (to : Cartridge) → disk.held v.slots.disk ≡ Some d → image_by d (Some value) ≡ Ok to → image_by d (Some value') ≡ Ok to
  unfolding stands_numbered at_inside
  numbered_by d to told is_to =
      let st = at_inside (λ (x : View D). MayStand disk value reads x) v w is stands_w d told in
      let same : counted st ≡ to = same_cartridge (image_by d (Some value)) to (counted st) is_to (is_counted st) in
      ap (λ (x : SlotValue). image_by d (Some x)) numbered ∙ is_counted (stands_numbered serial st)
      ∙ ap (λ (c : Cartridge). opened_as c) same

  renamed : {end : Result (Unit {0}) DriveErr} {n : View D} → IsCommit disk value' reads end v n → IsCommit disk value reads end w n
  renamed {end = end} {n = n} done_as = subst (λ (x : View D). IsCommit disk value reads end x n) is (record {
    stays = done_as.stays;
    count = done_as.count;
    untold = done_as.untold;
    told = done_as.told;
    crash = λ d from to told is_from is_to. done_as.crash d from to told is_from (numbered_by d to told is_to);
  })

  -- a value that was set is a commit that succeeded
  pub commit_is_set : value.vcr ≡ reads.vcr → slot.KnownAreLeft disk → slot.IsKept disk s → (room : Offsets) (doubt : Doubt) → room ≡ cut_to reads v.room
      → doubt ≡ v.doubt → r ≡ Ok tt
      → IsCommit {T = Unit {0}} {E = DriveErr} disk value reads (Ok tt) w (set_view disk v s value' reads rest r kept settled sized stands is_next done room doubt)
  commit_is_set same_vcr left_known slots_kept room doubt cut same ok =
      renamed (is_set disk v s value' reads rest r kept settled sized stands is_next done room doubt (same ∙ settled)
      (ap (λ (x : Offsets). x.limits) cut) (same_number ∙ same_vcr) (commit_kept left_known slots_kept room doubt cut same ok))

  -- a value that perhaps was set is a commit that failed
  pub commit_is_open : (why : DriveErr) → w.reads.vcr ≤ value.vcr
      → IsCommit {T = Unit {0}} {E = DriveErr} disk value reads (Err why) w (open_view disk v s value' reads rest r kept settled sized stands is_next done)
  commit_is_open why later = renamed (is_open disk v s value' reads rest r kept settled sized stands is_next done why
      (omega (arith, later, same_number, ap (λ (x : View D). x.reads.vcr) is)))

  -- no serial number was left
  pub commit_is_spent : (why : DriveErr) → r ≡ Err Serial → IsCommit {T = Unit {0}} {E = DriveErr} disk value reads (Err why) w (with_slots s v)
  commit_is_spent why spent =
      let same : s ≡ v.slots = done.after ∙ ap (λ (x : Result (Unit {0}) SetErr). slot.after_set x rest s.disk v.slots) spent in
      renamed (subst (λ (x : slot.View D). IsCommit {T = Unit {0}} {E = DriveErr} disk value' reads (Err why) v (with_slots x v)) (sym same)
      (not_set disk v value' reads why kept settled stands))

  -- a value that was set is the header's, with the next serial number
  pub commit_taken : (room : Offsets) (doubt : Doubt) → room ≡ cut_to reads v.room → doubt ≡ v.doubt
      → IsTaken value reads w (set_view disk v s value' reads rest r kept settled sized stands is_next done room doubt)
  commit_taken room doubt cut same = subst (λ (x : View D). IsTaken value reads x (set_view disk v s value' reads rest r kept settled sized stands is_next done room doubt)) is (record {
    base = numbered ∙ ap (λ (n : ℕ). with_serial n value) next;
    reads_are = refl;
    room = cut;
    doubt = same ∙ settled;
  })

-- a value that was refused before it was set leaves the tape as it was
pub commit_refused : {D : Type 0} (disk : Ghosts D) (v w : View D) (value reads : SlotValue) (why : DriveErr) → v ≡ w → IsKept disk v → w.doubt ≡ Settled
    → MayStand disk value reads w → IsCommit {T = Unit {0}} {E = DriveErr} disk value reads (Err why) w w
commit_refused {D = D} disk v w value reads why is kept settled stands =
    not_set disk w value reads why (subst (λ (x : View D). IsKept disk x) is kept) settled stands
