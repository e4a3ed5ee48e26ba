-- All that reads is counted, or an attribute is set.
use Rattle.std.proofs.Common.{◌≡◌, ℕ, ◌+◌, ◌≤◌, ◌⊎◌, ⊎_elim, inl, inr, List, take, length, Option, Some, None, Result, Ok, Err, OnOk, refl, sym, ap, ◌∙◌, subst, arith}
use Rattle.std.specs.List.{flat_map}
use Rattle.std.proofs.lemmas.List.{take_all}
use Rattle.crash_steps.proofs.Joined.{alone, behind_looks}
use Rattle.tape_types.specs.declared.cartridges.Cartridge.{Cartridge}
use Rattle.tape_types.specs.declared.cartridges.Item.{Item}
use Rattle.tape_types.specs.declared.cartridges.Limits.{Limits}
use Rattle.tape_types.specs.declared.cartridges.Note.{Note}
use Rattle.tape_types.specs.declared.cartridges.Part.{Part}
use Rattle.tape_types.specs.declared.cartridges.Part.TheVariants.{Ip, Dp}
use Rattle.tape_drive.specs.Commands.{AfterNote, IsNoted}
use Rattle.tape_drive.specs.Crashes.{IsSure, WithinFlush}
use Rattle.byte_disk.specs.Commands.{IsFileSure}
use Rattle.byte_disk.specs.Files.{Files}
use Rattle.byte_disk.specs.declared.disk.ByteDisk.{Ghosts}
use Rattle.byte_disk.specs.declared.disk.File.TheVariants as files
use Rattle.image_slots.proofs.Chains.{more_at_most, other_step, sure_told, then_at_most}
use Rattle.image_format.specs.declared.refusal.Refusal.{Refusal}
use Rattle.image_format.specs.declared.values.Half.{Half}
use Rattle.image_format.specs.declared.values.SlotValue.{SlotValue}
use Rattle.image_format.specs.Images.{cartridge_of, image_by}
use Rattle.image_format.specs.Offsets.{Offsets}
use Rattle.image_format.specs.Records.{record_bytes}
use Rattle.image_tape.specs.declared.doubt.Doubt.TheVariants.{Settled}
use Rattle.image_tape.specs.Halves.{noted, with_note, with_serial, with_vcr}
use Rattle.image_tape.specs.Steps.{AfterCommit, AreStored, IsCommit, IsNoteSet, IsSteady, IsStored, IsTaken, Looks, MayStand}
use Rattle.image_tape.specs.Tape.{CrashesOn, Holds, IsKept, LeavesOf, Lie, Stands, View, cut_to, held_by, held_of, with_reference}
use Rattle.crash_steps.specs.Crashes.{NothingNew}
use Rattle.image_tape.proofs.Fronts.{all_bytes}
use Rattle.image_tape.proofs.Lifting.{lifted_untold}
use Rattle.image_tape.proofs.Opened.{counted, is_counted, is_whole, whole}
use Rattle.image_tape.proofs.Telling.{held_is_whole, held_whole, left_known, tells_of}

-- halves with the same numbers say the same of a file
pub lie_like : (said reads said' reads' : Half) (offsets file : List ℕ) (items : List Item) → said'.count ≡ said.count → said'.end ≡ said.end
    → reads'.count ≡ reads.count → reads'.end ≡ reads.end → length offsets ≡ reads.count → Lie said reads offsets file items
    → Lie said' reads' (take reads'.count offsets) file items
lie_like said reads said' reads' offsets file items count end rcount rend size lie = record {
  records = record {
    count = lie.records.count ∙ sym rcount;
    each = lie.records.each;
    end = omega (arith, rend, lie.records.end);
    bytes = ap (λ (n : ℕ). take n file) rend ∙ lie.records.bytes;
  };
  offsets_are = take_all reads'.count offsets (omega (arith, size, rcount)) ∙ lie.offsets_are;
  fewer = omega (arith, count, rcount, lie.fewer);
  end = end ∙ lie.end ∙ ap (λ (n : ℕ). length (flat_map record_bytes (take n items))) (sym count);
}

-- all of them count
lie_all : (said reads : Half) (offsets file : List ℕ) (items : List Item) → length offsets ≡ reads.count → Lie said reads offsets file items
    → Lie reads reads (take reads.count offsets) file items
lie_all said reads offsets file items size lie = record {
  records = lie.records;
  offsets_are = take_all reads.count offsets (omega (arith, size)) ∙ lie.offsets_are;
  fewer = omega arith;
  end =
      sym (all_bytes reads file items lie.records)
      ∙ ap (λ (l : List Item). length (flat_map record_bytes l)) (sym (take_all reads.count items (omega (arith, lie.records.count))));
}

abbrev offsets_in : Offsets → List ℕ → List ℕ → Offsets
offsets_in r ip dp = record { limits = r.limits; ip = ip; dp = dp }

-- what reads is cut to itself
cut_all : (room : Offsets) (reads : SlotValue) → Holds room reads → cut_to reads room ≡ room
cut_all room reads holds =
    ap (λ (l : List ℕ). offsets_in room l (take reads.dp.count room.dp)) (take_all reads.ip.count room.ip (omega (arith, holds.ip)))
    ∙ ap (λ (l : List ℕ). offsets_in room room.ip l) (take_all reads.dp.count room.dp (omega (arith, holds.dp)))

abbrev read_ok : Cartridge → Result Cartridge Refusal
read_ok c = Ok c

module _ {D : Type 0} (disk : Ghosts D) where
  -- where the files of both partitions are synced, they are durable
  pub both_stored : {T E : Type 0} (a b : View D) (r : Result T E) → IsFileSure files.Ip (disk.held a.slots.disk) (disk.leaves a.slots.disk)
      → disk.held b.slots.disk ≡ disk.held a.slots.disk → ((image : Files) → disk.leaves b.slots.disk image → disk.leaves a.slots.disk image)
      → OnOk r (IsFileSure files.Dp (disk.held b.slots.disk) (disk.leaves b.slots.disk)) → OnOk r (AreStored disk b)
  both_stored a b (Ok x) sure_ip held left sure_dp = λ d image is now. (
    sure_told files.Ip (disk.held a.slots.disk) (disk.leaves a.slots.disk) sure_ip d image (sym held ∙ is) (left image now),
    sure_told files.Dp (disk.held b.slots.disk) (disk.leaves b.slots.disk) sure_dp d image is now,
  )
  both_stored a b (Err why) sure_ip held left sure_dp = tt

  -- all that reads may be counted
  pub all_stand : (v : View D) → IsKept disk v → v.doubt ≡ Settled → AreStored disk v → MayStand disk v.reads v.reads v
  all_stand v kept settled stored d is =
      let st = (tells_of disk v kept settled d is).0 in
      record {
        ip = st.ip;
        dp = st.dp;
        in_ip = lie_all v.base.ip v.reads.ip v.room.ip d.ip st.ip kept.holds.ip st.in_ip;
        in_dp = lie_all v.base.dp v.reads.dp v.room.dp d.dp st.dp kept.holds.dp st.in_dp;
        agree = λ image left.
            let same = stored d image is left in
            record {
              ip = ap (λ (file : List ℕ). take v.reads.ip.end file) same.0;
              dp = ap (λ (file : List ℕ). take v.reads.dp.end file) same.1;
            };
        vcr = omega arith;
        note_ip = refl;
        note_dp = refl;
        fits_ip = kept.holds.fits_ip;
        fits_dp = kept.holds.fits_dp;
      }

  -- there is an offset for each record that reads
  pub all_hold : (v : View D) → IsKept disk v → Holds (cut_to v.reads v.room) v.reads
  all_hold v kept = subst (λ (r : Offsets). Holds r v.reads) (sym (cut_all v.room v.reads kept.holds)) kept.holds

  -- the cartridge reads wherever the files are told
  told_or_not : (v : View D) (o : Option Files) → disk.held v.slots.disk ≡ o → (o ≡ None) ⊎ ((d : Files) × (disk.held v.slots.disk ≡ Some d))
  told_or_not v None is = inl refl
  told_or_not v (Some d) is = inr (d, is)

  -- where the disk tells no files, no cartridge is told
  pub untold_held : (v : View D) → disk.held v.slots.disk ≡ None → held_of disk v ≡ None
  untold_held v is = ap (λ (o : Option Files). held_by v o) is

  after_same : {T E : Type 0} (r : Result T E) (c : Cartridge) (held : Option Cartridge) → AfterCommit r c c held → held ≡ Some c
  after_same (Ok x) c held h = h
  after_same (Err why) c held (inl h) = h
  after_same (Err why) c held (inr h) = h

  -- a tape under another name of its view is one
  pub kept_at : (v w : View D) → v ≡ w → IsKept disk v → IsKept disk w
  kept_at v w is kept = subst (λ (x : View D). IsKept disk x) is kept

  -- what counts is all that reads, where the header says so
  pub counted_whole : {limits : Limits} {base reads : SlotValue} {room : Offsets} {leaves : Files → Type 0} {d : Files} (n : ℕ) (st : Stands limits base reads room leaves d)
      → base ≡ with_serial n reads → counted st ≡ whole st
  counted_whole {base = base} {reads = reads} n st is =
      ap (λ (s : SlotValue). cartridge_of s (take s.ip.count st.ip) (take s.dp.count st.dp)) is
      ∙ ap (λ (l : List Item). cartridge_of reads l (take reads.dp.count st.dp)) (take_all reads.ip.count st.ip (omega (arith, st.in_ip.records.count)))
      ∙ ap (λ (l : List Item). cartridge_of reads st.ip l) (take_all reads.dp.count st.dp (omega (arith, st.in_dp.records.count)))

  sure_all : (n : View D) → IsKept disk n → n.doubt ≡ Settled → (k : ℕ) → n.base ≡ with_serial k n.reads → (o : Option Cartridge) → held_of disk n ≡ o
      → IsSure o (LeavesOf disk n)
  sure_all n kept settled k is None held = tt
  sure_all n kept settled k is (Some c) held = λ image left.
      let t = held_is_whole disk n kept settled c held in
      left_known disk n kept settled (ap (λ (s : SlotValue). s.vcr) is) t.0 t.1 image left ∙ counted_whole k (tells_of disk n kept settled t.0 t.1).0 is ∙ sym t.2

  sure_taken : {T E : Type 0} (r : Result T E) (reads : SlotValue) (w n : View D) → IsKept disk n → OnOk r (IsTaken reads reads w n)
      → OnOk r (IsSure (held_of disk n) (LeavesOf disk n))
  sure_taken (Ok x) reads w n kept taken =
      sure_all n kept taken.doubt (w.base.serial + 1) (taken.base ∙ ap (λ (s : SlotValue). with_serial (w.base.serial + 1) s) (sym taken.reads_are)) (held_of disk n) refl
  sure_taken (Err why) reads w n kept taken = tt

  -- one and the same cartridge before and after
  held_same : {T E : Type 0} (r : Result T E) (reads : SlotValue) (w n : View D) → IsKept disk w → w.doubt ≡ Settled → reads ≡ w.reads
      → IsCommit disk reads reads r w n → held_of disk n ≡ held_of disk w
  held_same r reads w n kept settled all done = ⊎_elim
      (λ (none : disk.held w.slots.disk ≡ None). untold_held n (done.untold none) ∙ sym (untold_held w none))
      (λ (t : (d : Files) × (disk.held w.slots.disk ≡ Some d)).
      let st = (tells_of disk w kept settled t.0 t.1).0 in
      let is : image_by t.0 (Some w.reads) ≡ Ok (whole st) = is_whole st in
      let to : image_by t.0 (Some reads) ≡ Ok (whole st) = ap (λ (s : SlotValue). image_by t.0 (Some s)) all ∙ is in
      after_same r (whole st) (held_of disk n) (done.told t.0 (whole st) (whole st) t.1 is to) ∙ sym (held_whole disk w kept settled t.0 t.1))
      (told_or_not w (disk.held w.slots.disk) refl)

  -- all that reads is made durable once it is counted
  pub counted_all : {T E : Type 0} (r : Result T E) (reads : SlotValue) (w n : View D) → IsKept disk w → w.doubt ≡ Settled → reads ≡ w.reads
      → IsCommit disk reads reads r w n → OnOk r (IsTaken reads reads w n) → IsKept disk n → IsStored disk 6 r w n
  counted_all r reads w n kept settled all done taken kept_n = record {
    stays = done.stays;
    count = done.count;
    held = held_same r reads w n kept settled all done;
    sure = sure_taken r reads w n kept_n taken;
    crash = λ c held.
        let t = held_is_whole disk w kept settled c held in
        let st = (tells_of disk w kept settled t.0 t.1).0 in
        let to : image_by t.0 (Some reads) ≡ Ok (whole st) = ap (λ (s : SlotValue). image_by t.0 (Some s)) all ∙ is_whole st in
        other_step
        (λ before image left step. ⊎_elim
        (λ (old : image ≡ before). inl old)
        (λ (new : (before ≡ with_reference w.reads.vcr (counted st)) × (image ≡ whole st)). inr (new.1 ∙ sym t.2))
        step)
        (done.crash t.0 (counted st) (whole st) t.1 (is_counted st) to);
  }

  -- behind what only reads
  pub stored_after : {T E : Type 0} (r : Result T E) (m n : ℕ) (a b c : View D) → Looks disk m a b → IsStored disk n r b c → IsStored disk (m + n) r a c
  stored_after r m n a b c first second = record {
    stays = record {
      limits = second.stays.limits ∙ first.stays.limits;
      faults = second.stays.faults ∙ first.stays.faults;
      opened = second.stays.opened ∙ first.stays.opened;
    };
    count = then_at_most first.count second.count;
    held = second.held ∙ first.held;
    sure = second.sure;
    crash = λ x held. behind_looks (λ image. inl refl) first.count.later first.crash
        (subst (λ (l : Limits). CrashesOn disk l (WithinFlush x) b c) first.stays.limits (second.crash x (first.held ∙ held)));
  }

  -- what fails before anything is counted has stored nothing
  pub not_stored : {T E : Type 0} (why : E) (m n : ℕ) (a b : View D) → m ≤ n → Looks disk m a b → IsStored {T = T} disk n (Err why) a b
  not_stored why m n a b le looks = record {
    stays = looks.stays;
    count = more_at_most m n le looks.count;
    held = looks.held;
    sure = tt;
    crash = λ x held. alone (λ image. inl refl) looks.crash;
  }

  -- an attribute
  abbrev pub note_value : Part → Note → View D → SlotValue
  note_value part note v = with_vcr v.reads.vcr (with_note part note v.base)

  -- setting an attribute leaves the reference
  pub note_number : (part : Part) (note : Note) (s : SlotValue) → (with_note part note s).vcr ≡ s.vcr
  note_number Ip note s = refl
  note_number Dp note s = refl

  -- a header with another attribute would be right
  pub noted_stand : (part : Part) (note : Note) (v : View D) → IsKept disk v → v.doubt ≡ Settled → MayStand disk (note_value part note v) (with_note part note v.reads) v
  noted_stand Ip note v kept settled d is =
      let st = (tells_of disk v kept settled d is).0 in
      record {
        ip = st.ip;
        dp = st.dp;
        in_ip = lie_like v.base.ip v.reads.ip (noted note v.base.ip) (noted note v.reads.ip) v.room.ip d.ip st.ip refl refl refl refl kept.holds.ip st.in_ip;
        in_dp = lie_like v.base.dp v.reads.dp v.base.dp v.reads.dp v.room.dp d.dp st.dp refl refl refl refl kept.holds.dp st.in_dp;
        agree = λ image left. let a = st.agree image left in record { ip = a.ip; dp = a.dp };
        vcr = omega arith;
        note_ip = refl;
        note_dp = st.note_dp;
        fits_ip = st.fits_ip;
        fits_dp = st.fits_dp;
      }
  noted_stand Dp note v kept settled d is =
      let st = (tells_of disk v kept settled d is).0 in
      record {
        ip = st.ip;
        dp = st.dp;
        in_ip = lie_like v.base.ip v.reads.ip v.base.ip v.reads.ip v.room.ip d.ip st.ip refl refl refl refl kept.holds.ip st.in_ip;
        in_dp = lie_like v.base.dp v.reads.dp (noted note v.base.dp) (noted note v.reads.dp) v.room.dp d.dp st.dp refl refl refl refl kept.holds.dp st.in_dp;
        agree = λ image left. let a = st.agree image left in record { ip = a.ip; dp = a.dp };
        vcr = omega arith;
        note_ip = st.note_ip;
        note_dp = refl;
        fits_ip = st.fits_ip;
        fits_dp = st.fits_dp;
      }

  -- there is still an offset for each record with another attribute
  pub noted_hold : (part : Part) (note : Note) (v : View D) → IsKept disk v → Holds (cut_to (with_note part note v.reads) v.room) (with_note part note v.reads)
  noted_hold Ip note v kept =
      let h = all_hold v kept in record { ip = h.ip; dp = h.dp; fits_ip = h.fits_ip; fits_dp = h.fits_dp }
  noted_hold Dp note v kept =
      let h = all_hold v kept in record { ip = h.ip; dp = h.dp; fits_ip = h.fits_ip; fits_dp = h.fits_dp }

  noted_by : (part : Part) (note : Note) (s : SlotValue) (ip dp : List Item) → IsNoted part note (cartridge_of s ip dp) (cartridge_of (with_note part note s) ip dp)
  noted_by Ip note s ip dp = record { ip = refl; dp = refl; vcr = refl; other_note = refl; written = refl }
  noted_by Dp note s ip dp = record { ip = refl; dp = refl; vcr = refl; other_note = refl; written = refl }

  after_note : {T E : Type 0} (r : Result T E) (part : Part) (note : Note) (c e : Cartridge) (held : Option Cartridge) → IsNoted part note c e → AfterCommit r c e held
      → (x : Cartridge) × (held ≡ Some x) × AfterNote r part note c x
  after_note (Ok x) part note c e held is h = (e, h, is)
  after_note (Err why) part note c e held is (inl h) = (c, h, inl refl)
  after_note (Err why) part note c e held is (inr h) = (e, h, inr is)

  -- the header has the reference that reads
  pub steady_taken : {T E : Type 0} (r : Result T E) (value reads : SlotValue) (w n : View D) → value.vcr ≡ reads.vcr → OnOk r (IsTaken value reads w n)
      → OnOk r (IsSteady n)
  steady_taken (Ok x) value reads w n same taken = record {
    doubt = taken.doubt;
    vcr = ap (λ (s : SlotValue). s.vcr) taken.base ∙ same ∙ sym (ap (λ (s : SlotValue). s.vcr) taken.reads_are);
  }
  steady_taken (Err why) value reads w n same taken = tt

  -- a value that was taken leaves no doubt
  pub settled_taken : {T E : Type 0} (r : Result T E) (value reads : SlotValue) (w n : View D) → OnOk r (IsTaken value reads w n) → OnOk r (n.doubt ≡ Settled)
  settled_taken (Ok x) value reads w n taken = taken.doubt
  settled_taken (Err why) value reads w n taken = tt

  -- where no cartridge is told, the disk tells no files
  pub none_held : (v : View D) → IsKept disk v → v.doubt ≡ Settled → held_of disk v ≡ None → disk.held v.slots.disk ≡ None
  none_held v kept settled none = ⊎_elim
      (λ (is : disk.held v.slots.disk ≡ None). is)
      (λ (t : (d : Files) × (disk.held v.slots.disk ≡ Some d)).
      let bad : None ≡ Some (whole (tells_of disk v kept settled t.0 t.1).0) = sym none ∙ held_whole disk v kept settled t.0 t.1 in absurd (cc bad))
      (told_or_not v (disk.held v.slots.disk) refl)

  whole_noted : (part : Part) (note : Note) (v : View D) (kept : IsKept disk v) (settled : v.doubt ≡ Settled) (d : Files) (is : disk.held v.slots.disk ≡ Some d)
      → whole (noted_stand part note v kept settled d is)
      ≡ cartridge_of (with_note part note v.reads) (tells_of disk v kept settled d is).0.ip (tells_of disk v kept settled d is).0.dp
  unfolding noted_stand
  whole_noted Ip note v kept settled d is = refl
  whole_noted Dp note v kept settled d is = refl

  counted_noted : (part : Part) (note : Note) (v : View D) (kept : IsKept disk v) (settled : v.doubt ≡ Settled) (d : Files) (is : disk.held v.slots.disk ≡ Some d)
      → IsNoted part note (with_reference v.reads.vcr (counted (tells_of disk v kept settled d is).0)) (counted (noted_stand part note v kept settled d is))
  unfolding noted_stand
  counted_noted Ip note v kept settled d is = record { ip = refl; dp = refl; vcr = refl; other_note = refl; written = refl }
  counted_noted Dp note v kept settled d is = record { ip = refl; dp = refl; vcr = refl; other_note = refl; written = refl }

  pub note_is_set : {T E : Type 0} (r : Result T E) (part : Part) (note : Note) (w n : View D) → IsKept disk w → w.doubt ≡ Settled
      → IsCommit disk (note_value part note w) (with_note part note w.reads) r w n
      → OnOk r (IsTaken (note_value part note w) (with_note part note w.reads) w n) → IsNoteSet disk part note r w n
  note_is_set r part note w n kept settled done taken = record {
    stays = done.stays;
    count = done.count;
    settled = steady_taken r (note_value part note w) (with_note part note w.reads) w n (sym (note_number part note w.reads)) taken;
    untold = λ none. untold_held n (done.untold (none_held w kept settled none));
    told = λ c held.
        let t = held_is_whole disk w kept settled c held in
        let st = (tells_of disk w kept settled t.0 t.1).0 in
        let st1 = noted_stand part note w kept settled t.0 t.1 in
        let to : Cartridge = cartridge_of (with_note part note w.reads) st.ip st.dp in
        let is : IsNoted part note c to = subst (λ (x : Cartridge). IsNoted part note x to) (sym t.2) (noted_by part note w.reads st.ip st.dp) in
        after_note r part note c to (held_of disk n) is
        (subst (λ (x : Cartridge). AfterCommit r x to (held_of disk n)) (sym t.2)
        (done.told t.0 (whole st) to t.1 (is_whole st) (is_whole st1 ∙ ap (λ (x : Cartridge). read_ok x) (whole_noted part note w kept settled t.0 t.1))));
    crash = λ c held.
        let t = held_is_whole disk w kept settled c held in
        let st = (tells_of disk w kept settled t.0 t.1).0 in
        let st1 = noted_stand part note w kept settled t.0 t.1 in
        other_step
        (λ before image left step. ⊎_elim
        (λ (old : image ≡ before). inl old)
        (λ (new : (before ≡ with_reference w.reads.vcr (counted st)) × (image ≡ counted st1)). inr
        (subst (λ (x : Cartridge). IsNoted part note before x) (sym new.1)
        (subst (λ (x : Cartridge). IsNoted part note x (counted st1)) (sym new.0) (counted_noted part note w kept settled t.0 t.1))))
        step)
        (done.crash t.0 (counted st) (counted st1) t.1 (is_counted st) (is_counted st1));
  }

module _ {D : Type 0} (disk : Ghosts D) (w : View D) (kept : IsKept disk w) (settled : w.doubt ≡ Settled) where
  abbrev pub vcr_value : SlotValue
  vcr_value = with_vcr w.reads.vcr w.base

  -- the header as it is, with another reference, and all that reads with that or a greater one
  unfoldable pub referred_stand : (n m : ℕ) → n ≤ m → MayStand disk (with_vcr n w.base) (with_vcr m w.reads) w
  referred_stand n m le d is =
      let st = (tells_of disk w kept settled d is).0 in
      record {
        ip = st.ip;
        dp = st.dp;
        in_ip = lie_like w.base.ip w.reads.ip w.base.ip w.reads.ip w.room.ip d.ip st.ip refl refl refl refl kept.holds.ip st.in_ip;
        in_dp = lie_like w.base.dp w.reads.dp w.base.dp w.reads.dp w.room.dp d.dp st.dp refl refl refl refl kept.holds.dp st.in_dp;
        agree = λ image left. let a = st.agree image left in record { ip = a.ip; dp = a.dp };
        vcr = le;
        note_ip = st.note_ip;
        note_dp = st.note_dp;
        fits_ip = st.fits_ip;
        fits_dp = st.fits_dp;
      }

  -- the header as it is, with the reference that reads
  abbrev pub vcr_stand : MayStand disk vcr_value w.reads w
  vcr_stand = referred_stand w.reads.vcr w.reads.vcr (omega arith)

  counted_vcr : (d : Files) (is : disk.held w.slots.disk ≡ Some d)
      → counted (vcr_stand d is) ≡ with_reference w.reads.vcr (counted (tells_of disk w kept settled d is).0)
  unfolding referred_stand
  counted_vcr d is = refl

  vcr_told : {T E : Type 0} (r : Result T E) (n : View D) → IsCommit disk vcr_value w.reads r w n → (d : Files) → disk.held w.slots.disk ≡ Some d
      → (held_of disk n ≡ held_of disk w) × CrashesOn disk w.room.limits NothingNew w n
  vcr_told r n done d is =
      let st = (tells_of disk w kept settled d is).0 in
      let st1 = vcr_stand d is in (
        after_same disk r (whole st) (held_of disk n) (done.told d (whole st) (whole st) is (is_whole st) (is_whole st)) ∙ sym (held_whole disk w kept settled d is),
        other_step
            (λ before image left step. ⊎_elim
            (λ (old : image ≡ before). old)
            (λ (new : (before ≡ with_reference w.reads.vcr (counted st)) × (image ≡ counted st1)). new.1 ∙ counted_vcr d is ∙ sym new.0)
            step)
            (done.crash d (counted st) (counted st1) is (is_counted st) (is_counted st1)),
      )

  vcr_untold : {T E : Type 0} (r : Result T E) (n : View D) → IsCommit disk vcr_value w.reads r w n → disk.held w.slots.disk ≡ None
      → (held_of disk n ≡ held_of disk w) × CrashesOn disk w.room.limits NothingNew w n
  vcr_untold r n done none = (
    untold_held disk n (done.untold none) ∙ sym (untold_held disk w none),
    lifted_untold disk w.room.limits w.reads.vcr n.reads.vcr w.slots.disk n.slots.disk
        (λ told. let bad : None ≡ Some told.0 = sym none ∙ told.1 in cc bad)
        (λ told. let bad : None ≡ Some told.0 = sym (done.untold none) ∙ told.1 in cc bad),
  )

  -- the cartridge reads as it did, and nothing new is left
  pub vcr_looks : {T E : Type 0} (r : Result T E) (n : View D) → IsCommit disk vcr_value w.reads r w n → Looks disk 6 w n
  vcr_looks r n done =
      let both = ⊎_elim (vcr_untold r n done) (λ (t : (d : Files) × (disk.held w.slots.disk ≡ Some d)). vcr_told r n done t.0 t.1)
      (told_or_not disk w (disk.held w.slots.disk) refl) in
      record { stays = done.stays; held = both.0; count = done.count; crash = both.1 }

-- what is said of values and of a tape is said of their equals
pub there : {D : Type 0} (P : SlotValue → SlotValue → View D → Type 0) (base reads base' reads' : SlotValue) (v w : View D) → base ≡ base' → reads ≡ reads' → v ≡ w
    → P base' reads' v → P base reads w
there {D = D} P base reads base' reads' v w eb er is h =
    subst (λ (x : View D). P base reads x) is
    (subst (λ (s : SlotValue). P s reads v) (sym eb) (subst (λ (s : SlotValue). P base' s v) (sym er) h))

-- what holds of values and a tape holds under other names of these
pub back : {D : Type 0} (P : SlotValue → SlotValue → View D → Type 0) (base reads base' reads' : SlotValue) (v w : View D) → base ≡ base' → reads ≡ reads' → v ≡ w
    → P base reads w → P base' reads' v
back P base reads base' reads' v w eb er is h = there P base' reads' base reads w v (sym eb) (sym er) (sym is) h

-- a commit with another attribute is a setting of it
pub note_is_set_at : {D T E : Type 0} (disk : Ghosts D) (r : Result T E) (part : Part) (note : Note) (base reads : SlotValue) (v w n : View D) → v ≡ w → IsKept disk v
    → w.doubt ≡ Settled → base ≡ note_value disk part note v → reads ≡ with_note part note v.reads → IsCommit disk base reads r w n
    → OnOk r (IsTaken base reads w n) → IsNoteSet disk part note r w n
note_is_set_at {D = D} disk r part note base reads v w n is kept settled eb er done taken =
    subst (λ (x : View D). IsNoteSet disk part note r x n) is
    (note_is_set disk r part note v n kept (ap (λ (x : View D). x.doubt) is ∙ settled)
    (back (λ b s x. IsCommit disk b s r x n) base reads (note_value disk part note v) (with_note part note v.reads) v w eb er is done)
    (back (λ b s x. OnOk r (IsTaken b s x n)) base reads (note_value disk part note v) (with_note part note v.reads) v w eb er is taken))
