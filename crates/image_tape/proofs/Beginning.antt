-- A tape that is opened is one.
use Rattle.std.proofs.Common.{◌≡◌, ℕ, ◌+◌, ◌-◌, ◌^◌, ◌<◌, ◌≤◌, Bool, true, false, ◌&&◌, nat_lt, nat_le, List, [], take, length, Option, Some, None, Result, Ok, Err, inl, refl, sym, ap, ◌∙◌, subst, arith}
use Rattle.std.specs.Prelude.{if◌then◌else◌}
use Rattle.std.specs.List.{flat_map}
use Rattle.std.proofs.lemmas.Bool.{and_parts, leb-true, ltb-true}
use Rattle.std.proofs.lemmas.List.{take_all}
use Rattle.tape_types.specs.Cartridges.{IsLimits}
use Rattle.tape_types.specs.declared.cartridges.Cartridge.{Cartridge}
use Rattle.tape_types.specs.declared.cartridges.Item.{Item}
use Rattle.tape_types.specs.declared.cartridges.Limits.{Limits}
use Rattle.crash_steps.proofs.Joined.{widened}
use Rattle.byte_disk.specs.Files.{AreFiles, Files}
use Rattle.byte_disk.specs.declared.disk.ByteDisk.{Ghosts}
use Rattle.image_slots.specs.Calls.{WithinOpen}
use Rattle.image_slots.specs.Pieces.{CrashesIn}
use Rattle.image_slots.specs.State as slot
use Rattle.image_slots.specs.declared.known.Known.TheVariants.{Steady}
use Rattle.image_format.specs.declared.values.Half.{Half}
use Rattle.image_format.specs.declared.values.SlotValue.{SlotValue}
use Rattle.image_format.specs.Images.{Fits, cartridge_of, fits, fitting, header_by, image_by, joined}
use Rattle.image_format.specs.Looks.{Looks}
use Rattle.image_format.specs.Reading.{IsRead}
use Rattle.image_format.specs.declared.refusal.ReadErr.{ReadErr}
use Rattle.image_format.specs.declared.refusal.ReadErr.TheVariants.{Refused}
use Rattle.image_format.specs.declared.refusal.ReadErr.TheVariants as re
use Rattle.image_format.specs.declared.refusal.Refusal.{Refusal}
use Rattle.image_format.specs.declared.refusal.Refusal.TheVariants as rh
use Rattle.image_format.proofs.RecordLemmas.{records_only}
use Rattle.image_tape.specs.declared.errors.OpenErr.{OpenErr}
use Rattle.image_format.specs.Offsets.{Offsets, offsets_from}
use Rattle.image_format.specs.Records.{AreRecords, items_in, record_bytes}
use Rattle.image_format.specs.Values.{flag, value_of}
use Rattle.image_tape.specs.declared.doubt.Doubt.TheVariants.{Settled}
use Rattle.image_tape.specs.Opens.{AreSynced, HasFault, HasLooked, HasOpened, IsReason, IsRefused, IsTellable, RefusedAs, reason_of}
use Rattle.image_tape.specs.Tape.{AreEarlier, IsKept, Lie, Stands, View}
use Rattle.image_tape.proofs.Heads.{nowhere}
use Rattle.image_tape.proofs.Fronts.{all_bytes, offsets_size}
use Rattle.image_tape.proofs.Opened.{agreed_opens, counted, is_whole, whole}
use Rattle.image_tape.proofs.Lifting.{same_cartridge}
use Rattle.image_tape.proofs.Telling.{held_whole, left_known, tells_of}
use Rattle.image_tape.proofs.Wholes.{counted_whole}
use Rattle.image_tape.proofs.Surely.{header_of_value}

fits_half : (n cap : ℕ) (t : Bool) → (if t then nat_lt n cap else nat_le n cap) ≡ true → n + flag t ≤ cap
fits_half n cap true e = omega (arith, ltb-true n cap e)
fits_half n cap false e = omega (arith, leb-true n cap e)

if_some : (t : Bool) (x s : SlotValue) → (if t then Some x else None) ≡ Some s → (t ≡ true) × (x ≡ s)
if_some true x s e = (refl, cc e)
if_some false x s e = absurd (cc e)

value_fits_by : (limits : Limits) (o : Option SlotValue) (s : SlotValue) → fitting limits o ≡ Some s → Fits limits.cap_ip s.ip × Fits limits.cap_dp s.dp
value_fits_by limits None s e = absurd (cc e)
value_fits_by limits (Some x) s e =
    let is = if_some (fits limits.cap_ip x.ip && fits limits.cap_dp x.dp) x s e in
    let both = and_parts (fits limits.cap_ip x.ip) (fits limits.cap_dp x.dp) is.0 in
    subst (λ (y : SlotValue). Fits limits.cap_ip y.ip × Fits limits.cap_dp y.dp) is.1
    (fits_half x.ip.count limits.cap_ip x.ip.torn both.0, fits_half x.dp.count limits.cap_dp x.dp.torn both.1)

-- a value that is told fits the capacities
value_fits : (limits : Limits) (raw : List ℕ) (s : SlotValue) → header_by limits (Some raw) ≡ Some s → Fits limits.cap_ip s.ip × Fits limits.cap_dp s.dp
value_fits limits raw s e = value_fits_by limits (value_of raw) s e

lie_whole : (h : Half) (offsets file : List ℕ) (items : List Item) → AreRecords h file items → offsets ≡ offsets_from 0 items → Lie h h offsets file items
lie_whole h offsets file items are at = record {
  records = are;
  offsets_are = at;
  fewer = omega arith;
  end = sym (all_bytes h file items are) ∙ ap (λ (l : List Item). length (flat_map record_bytes l)) (sym (take_all h.count items (omega (arith, are.count))));
}

module _ {D : Type 0} (disk : Ghosts D) (s : slot.View D) (room : Offsets) (value : SlotValue) (told : IsTellable disk room.limits s room value) where
  pub stands_whole : (d : Files) → disk.held s.disk ≡ Some d → Stands room.limits value value room (disk.leaves s.disk) d
  stands_whole d is =
      let r = told.records d is in
      let fit = value_fits room.limits s.value value told.said in
      record {
        ip = r.0;
        dp = r.1;
        in_ip = lie_whole value.ip room.ip d.ip r.0 r.2 r.4;
        in_dp = lie_whole value.dp room.dp d.dp r.1 r.3 r.5;
        agree = λ image left.
            let same = told.synced d image is left in
            record { ip = ap (λ (l : List ℕ). take value.ip.end l) same.0; dp = ap (λ (l : List ℕ). take value.dp.end l) same.1 };
        vcr = omega arith;
        note_ip = refl;
        note_dp = refl;
        fits_ip = fit.0;
        fits_dp = fit.1;
      }

  -- a tape over a disk that is known, with no moment past, is one
  pub kept_over : slot.KnownAreLeft disk → slot.IsKept disk s → s.known ≡ Steady → IsLimits room.limits → (opened : ℕ) (past : List (ℕ × slot.View D))
      → opened ≡ disk.commands s.disk → past ≡ []
      → ((image : Files) → disk.commands s.disk < 2 ^ 64 - 1 → disk.left_since s.disk (disk.commands s.disk) image → disk.leaves s.disk image)
      → IsKept disk (record { slots = s; room = room; base = value; reads = value; doubt = Settled; head = None; faults = 0; opened = opened; past = past })
  kept_over known kept steady limits opened past now first only =
      let fit = value_fits room.limits s.value value told.said in
      record {
        limits = limits;
        holds = record { ip = told.count_ip; dp = told.count_dp; fits_ip = fit.0; fits_dp = fit.1 };
        suits = steady;
        reached = omega (arith, now);
        always = λ d is short image left.
            let st = stands_whole d is in
            let at_now = subst (λ (n : ℕ). disk.left_since s.disk n image) now left in
            let leaves = only image (omega (arith, short, now)) at_now in
            let head = header_of_value room.limits image.cm s.value value ((known s kept steady d is).1 image leaves) told.said in
            (counted st, agreed_opens st image (st.agree image leaves) head);
        past = subst (λ (l : List (ℕ × slot.View D)). AreEarlier disk l (disk.commands s.disk)) (sym first) tt;
        within = nowhere _;
        tells = λ d is. (
          stands_whole d is,
          header_of_value room.limits d.cm s.value value (known s kept steady d is).0 told.said,
          λ image left. header_of_value room.limits image.cm s.value value ((known s kept steady d is).1 image left) told.said,
          told.said,
        );
      }

-- every record of a value that was read has its offset
read_counts : (limits : Limits) (d : Files) (s : SlotValue) (room : Offsets) → AreFiles d → IsRead limits d (Ok s) room
    → (length room.ip ≡ s.ip.count) × (length room.dp ≡ s.dp.count)
read_counts limits d s room bytes h =
    let found = h.3 in (
      ap length found.at_ip ∙ offsets_size 0 h.0 ∙ (records_only s.ip d.ip h.0 bytes.ip found.in_ip).count,
      ap length found.at_dp ∙ offsets_size 0 h.1 ∙ (records_only s.dp d.dp h.1 bytes.dp found.in_dp).count,
    )

-- a disk whose records are all found can't be found to lack any
pub uncounted : {D : Type 0} (disk : Ghosts D) (limits : Limits) (old : D) (s : SlotValue) (room : Offsets) (all : Bool) → ((d : Files) → disk.held old ≡ Some d → AreFiles d)
    → ((d : Files) → disk.held old ≡ Some d → IsRead limits d (Ok s) room)
    → (length room.ip ≡ s.ip.count → length room.dp ≡ s.dp.count → all ≡ true) → all ≡ false → (d : Files) → disk.held old ≡ Some d → ⊥
uncounted disk limits old s room all bytes read both isnt d is =
    let counts = read_counts limits d s room (bytes d is) (read d is) in
    let bad : true ≡ false = sym (both counts.0 counts.1) ∙ isnt in cc bad

-- a disk that was read and synced is such that a tape can be opened over it
pub tellable : {D : Type 0} (disk : Ghosts D) (limits : Limits) (a b c : slot.View D) (room : Offsets) (value : SlotValue) → ((d : Files) → disk.held a.disk ≡ Some d → AreFiles d)
    → AreSynced disk b → disk.held b.disk ≡ disk.held a.disk → header_by limits (Some b.value) ≡ Some value → Looks disk ((limits.cap_ip + 2) + (limits.cap_dp + 2)) b c
    → ((d : Files) → disk.held b.disk ≡ Some d → IsRead limits d (Ok value) room) → length room.ip ≡ value.ip.count → length room.dp ≡ value.dp.count
    → IsTellable disk limits c room value
tellable disk limits a b c room value bytes synced held said looks read ip dp = record {
  said = ap (λ (l : List ℕ). header_by limits (Some l)) looks.over.value ∙ said;
  count_ip = ip;
  count_dp = dp;
  synced = λ d left is now. synced d left (sym looks.held ∙ is) (looks.reads.leaves left now);
  records = λ d is.
      let at_b : disk.held b.disk ≡ Some d = sym looks.held ∙ is in
      let are = bytes d (sym held ∙ at_b) in
      let h = read d at_b in
      let found = h.3 in
      (h.0, h.1, records_only value.ip d.ip h.0 are.ip found.in_ip, records_only value.dp d.dp h.1 are.dp found.in_dp, found.at_ip, found.at_dp);
}

abbrev read_ok : Cartridge → Result Cartridge Refusal
read_ok c = Ok c

-- what only reads leaves what an opening may leave
looked_opens : {D : Type 0} (disk : Ghosts D) (old new : D) → HasLooked disk old new → CrashesIn disk WithinOpen old new
looked_opens disk old new looked = widened (λ x y same. inl same) looked.crash

module _ {D : Type 0} (disk : Ghosts D) (limits : Limits) (old : D) (s : slot.View D) (room : Offsets) (value : SlotValue) (opened : ℕ) where
  abbrev pub begun : View D
  begun = record { slots = s; room = room; base = value; reads = value; doubt = Settled; head = None; faults = 0; opened = opened; past = [] }

  opened_here : IsKept disk begun → opened ≡ disk.commands s.disk → room.limits ≡ limits → HasLooked disk old s.disk → disk.held s.disk ≡ disk.held old
      → ((d : Files) → disk.held old ≡ Some d → IsRead limits d (Ok value) room) → HasOpened disk limits old begun
  opened_here kept now same looked held read = record {
    limits_are = same;
    head = refl;
    faults = refl;
    opened = now;
    later = looked.later;
    crash = λ d is_old. looked_opens disk old s.disk looked;
    untold = λ none. held ∙ none;
    told = λ d is_old.
        let is : disk.held s.disk ≡ Some d = held ∙ is_old in
        let st = (tells_of disk begun kept refl d is).0 in
        let h = read d is_old in
        let found = h.3 in
        let joined_is : image_by d (Some value) ≡ Ok (cartridge_of value h.0 h.1) =
        ap (λ (r : Result (List Item) ℕ). joined value r (items_in value.dp d.dp)) found.in_ip
        ∙ ap (λ (r : Result (List Item) ℕ). joined value (Ok h.0) r) found.in_dp in
        let one : whole st ≡ cartridge_of value h.0 h.1 = same_cartridge (image_by d (Some value)) (cartridge_of value h.0 h.1) (whole st) joined_is (is_whole st) in (
          whole st,
          h.4 ∙ ap (λ (c : Cartridge). read_ok c) (sym one),
          held_whole disk begun kept refl d is,
          λ x left. left_known disk begun kept refl refl d is x left ∙ counted_whole disk value.serial st refl,
        );
  }

  -- the tape that begins over a disk has its cartridge
  pub has_opened : (t : View D) → t ≡ begun → IsKept disk t → opened ≡ disk.commands s.disk → room.limits ≡ limits → HasLooked disk old s.disk → disk.held s.disk ≡ disk.held old
      → ((d : Files) → disk.held old ≡ Some d → IsRead limits d (Ok value) room) → HasOpened disk limits old t
  has_opened t is kept now same looked held read = subst (λ (v : View D). HasOpened disk limits old v) (sym is)
      (opened_here (subst (λ (v : View D). IsKept disk v) is kept) now same looked held read)

refused_by : {D : Type 0} (disk : Ghosts D) (limits : Limits) (old : D) (room : Offsets) (why : ReadErr) (before after : ℕ) (d : Files) → IsRead limits d (Err why) room
    → RefusedAs limits d (reason_of why before after)
refused_by disk limits old room (Refused rh.Header) before after d h = h
refused_by disk limits old room (Refused (rh.Record part n)) before after d h = h
refused_by disk limits old room re.Disk before after d h = tt

fault_by : (why : ReadErr) (before after : ℕ) → before ≤ after → IsReason before after why → HasFault before after (reason_of why before after)
fault_by (Refused rh.Header) before after le h = tt
fault_by (Refused (rh.Record part n)) before after le h = tt
fault_by re.Disk before after le h = record { lowest = omega arith; rose = h; highest = omega arith }

-- why nothing was read of a disk is why no tape is opened
pub is_refused : {D : Type 0} (disk : Ghosts D) (limits : Limits) (old : D) (s new : D) (room : Offsets) (why : ReadErr) (before after : ℕ) (reason : OpenErr)
    → reason ≡ reason_of why before after → new ≡ s → before ≡ disk.faults old → after ≡ disk.faults s → disk.faults old ≤ disk.faults s → HasLooked disk old s → disk.held s ≡ disk.held old
    → ((d : Files) → disk.held old ≡ Some d → IsRead limits d (Err why) room) → IsReason (disk.faults old) (disk.faults s) why
    → IsRefused disk limits reason old new
is_refused {D = D} disk limits old s new room why before after reason is same eb ea later looked held read cause =
    subst (λ (b : D). IsRefused disk limits reason old b) (sym same)
    (subst (λ (r : OpenErr). IsRefused disk limits r old s) (sym (is ∙ ap (λ (n : ℕ). reason_of why n after) eb ∙ ap (λ (n : ℕ). reason_of why (disk.faults old) n) ea)) (record {
      told = λ d is_old. refused_by disk limits old room why (disk.faults old) (disk.faults s) d (read d is_old);
      later = looked.later;
      crash = λ d is_old. looked_opens disk old s looked;
      untold = λ none. held ∙ none;
      left = λ d is_old. (d, held ∙ is_old, refl);
      fault = fault_by why (disk.faults old) (disk.faults s) later cause;
    }))
