-- What is written behind the records that read shows in no image.
use Rattle.std.proofs.Common.{◌≡◌, ℕ, ◌+◌, ◌≤◌, inl, List, ◌++◌, take, drop, length, Option, Some, None, Result, Ok, Err, IfSome, OnOk, refl, sym, ap, ◌∙◌, subst, arith}
use Rattle.std.proofs.lemmas.List.{append_assoc, length-append, length-take, length-take-le, take_at}
use Rattle.crash_steps.specs.Crashes.{NothingNew}
use Rattle.tape_types.specs.declared.cartridges.Cartridge.{Cartridge}
use Rattle.tape_types.specs.declared.cartridges.Item.{Item}
use Rattle.tape_types.specs.declared.cartridges.Limits.{Limits}
use Rattle.tape_types.specs.declared.cartridges.Part.{Part}
use Rattle.tape_types.specs.declared.cartridges.Part.TheVariants.{Ip, Dp}
use Rattle.byte_disk.specs.Commands.{WithinWrite}
use Rattle.byte_disk.specs.Files.{AfterWrite, Files, KeepsOthers, bytes_of}
use Rattle.byte_disk.specs.declared.disk.ByteDisk.{Ghosts}
use Rattle.byte_disk.proofs.Written.{length_written}
use Rattle.image_slots.specs.Pieces.{IsTouched}
use Rattle.image_slots.specs.State as slot
use Rattle.image_slots.specs.State.{file_of}
use Rattle.image_slots.proofs.Bytes.{any_touched, touched_run, written_touched}
use Rattle.image_slots.proofs.Chains.{both_steps, held_has, join_same, more_at_most, no_step, one_at_most, same_files, then_at_most, told_before, where_told}
use Rattle.image_format.specs.declared.refusal.Refusal.{Refusal}
use Rattle.image_format.specs.declared.values.Half.{Half}
use Rattle.image_format.specs.declared.values.SlotValue.{SlotValue}
use Rattle.image_format.specs.Images.{Opens, header, header_by, image_by}
use Rattle.image_format.specs.Offsets.{Offsets}
use Rattle.image_format.specs.declared.heads.Head.{Head}
use Rattle.image_format.specs.declared.heads.Head.TheVariants as heads
use Rattle.image_format.specs.Records.{head_bytes}
use Rattle.image_tape.specs.declared.doubt.Doubt.{Doubt}
use Rattle.image_tape.specs.declared.doubt.Doubt.TheVariants.{Settled}
use Rattle.image_tape.specs.Halves.{half_of}
use Rattle.image_tape.specs.Tape.{Agree, AlwaysOpens, CrashesOn, IsKept, Lie, Stands, Suits, Tells, View, given, held_by, held_of, reading_by}
use Rattle.image_tape.specs.Writes.{FollowsIn, Hides, StandBehind}
use Rattle.image_tape.proofs.Fronts.{all_bytes, front_size, same_records}
use Rattle.image_tape.proofs.Lifting.{goes_on, lifted_still, same_cartridge}
use Rattle.image_tape.proofs.Moments.{earlier_on}
use Rattle.image_tape.proofs.Opened.{agreed_opens, counted, is_whole, whole}
use Rattle.image_tape.proofs.Telling.{told_files, tells_of}
use Rattle.image_tape.proofs.Upkeep.{with_slots}

-- bytes in front of a write stay
kept_front : (k at n : ℕ) (old new : List ℕ) → IsTouched at n old new → k ≤ at → k ≤ length old → take k new ≡ take k old
kept_front k at n old new touched le within = touched_run touched 0 k (omega (arith, within)) (inl (omega (arith, le)))

-- a write, also one that failed, is one of its range
write_touches : {T E : Type 0} (r : Result T E) (part : Part) (at : ℕ) (bytes : List ℕ) (d e : Files) → at ≤ length (bytes_of (file_of part) d)
    → AfterWrite r (file_of part) at bytes d e
    → KeepsOthers (file_of part) d e × IsTouched at (length bytes) (bytes_of (file_of part) d) (bytes_of (file_of part) e)
write_touches (Ok x) part at bytes d e within h =
    (h.others, subst (λ (l : List ℕ). IsTouched at (length bytes) (bytes_of (file_of part) d) l) (sym h.put) (written_touched at bytes (bytes_of (file_of part) d) within))
write_touches (Err why) part at bytes d e within h = (h.others, any_touched h.any)

-- where a write succeeded its bytes follow
write_follows : {T E : Type 0} (r : Result T E) (part : Part) (at : ℕ) (bytes : List ℕ) (d e : Files) → at ≤ length (bytes_of (file_of part) d)
    → AfterWrite r (file_of part) at bytes d e → OnOk r (FollowsIn at bytes (bytes_of (file_of part) d) (bytes_of (file_of part) e))
write_follows (Ok x) part at bytes d e within h =
    let old = bytes_of (file_of part) d in
    record {
      within = omega (arith, ap length h.put, length_written at bytes old within);
      is =
          ap (λ (l : List ℕ). take (at + length bytes) l) h.put
          ∙ take_at (take at old ++ bytes) (drop (at + length bytes) old) (at + length bytes)
          (omega (arith, length-append (take at old) bytes, length-take-le at old within));
    }
write_follows (Err why) part at bytes d e within h = tt

-- a record behind others
stand_behind : (at : ℕ) (first second d e f : List ℕ) → at ≤ length d → FollowsIn at first d e → FollowsIn (at + length first) second e f
    → StandBehind at (first ++ second) f
stand_behind at first second d e f within one two = record {
  front = take at d;
  place = length-take-le at d within;
  within = omega (arith, two.within, length-append first second);
  is =
      ap (λ (n : ℕ). take n f) (let same : at + length (first ++ second) ≡ at + length first + length second = omega (arith, length-append first second) in same)
      ∙ two.is ∙ ap (λ (l : List ℕ). l ++ second) one.is ∙ append_assoc (take at d) first second;
}

said_within : (said reads : Half) (offsets file : List ℕ) (items : List Item) → Lie said reads offsets file items → (said.end ≤ reads.end) × (reads.end ≤ length file)
said_within said reads offsets file items lie =
    (omega (arith, lie.end, front_size said.count items, all_bytes reads file items lie.records), lie.records.end)

agreed_size : (n : ℕ) (a b : List ℕ) → take n a ≡ take n b → n ≤ length b → n ≤ length a
agreed_size n a b same le = omega (arith, ap length same, length-take n a, length-take n b, le)

-- the numbers of what counts and of what reads, and the file, of one partition
abbrev FileStays : Part → SlotValue → Files → Files → Type 0
FileStays Ip s old new = (take s.ip.end new.ip ≡ take s.ip.end old.ip) × (new.dp ≡ old.dp) × (new.cm ≡ old.cm)
FileStays Dp s old new = (take s.dp.end new.dp ≡ take s.dp.end old.dp) × (new.ip ≡ old.ip) × (new.cm ≡ old.cm)

stays_touched : (part : Part) (s : SlotValue) (at n : ℕ) (old new : Files) → KeepsOthers (file_of part) old new
    → IsTouched at n (bytes_of (file_of part) old) (bytes_of (file_of part) new) → (half_of part s).end ≤ at → (half_of part s).end ≤ length (bytes_of (file_of part) old)
    → FileStays part s old new
stays_touched Ip s at n old new others touched le within = (kept_front s.ip.end at n old.ip new.ip touched le within, others.0, others.1)
stays_touched Dp s at n old new others touched le within = (kept_front s.dp.end at n old.dp new.dp touched le within, others.0, others.1)

agree_stays : (part : Part) (said : SlotValue) (d before left : Files) → Agree said d before → FileStays part said before left → Agree said d left
agree_stays Ip said d before left a h = record { ip = h.0 ∙ a.ip; dp = ap (λ (l : List ℕ). take said.dp.end l) h.1 ∙ a.dp }
agree_stays Dp said d before left a h = record { ip = ap (λ (l : List ℕ). take said.ip.end l) h.1 ∙ a.ip; dp = h.0 ∙ a.dp }

cm_stays : (part : Part) (s : SlotValue) (old new : Files) → FileStays part s old new → new.cm ≡ old.cm
cm_stays Ip s old new h = h.2
cm_stays Dp s old new h = h.2

-- what stands goes on to stand where what reads stays
stands_stays : (part : Part) {limits : Limits} {said reads : SlotValue} {room : Offsets} (la lb : Files → Type 0) (d e : Files) → Stands limits said reads room la d
    → FileStays part reads d e → FileStays part said d e → ((left : Files) → lb left → Agree said d left) → Stands limits said reads room lb e
stands_stays Ip {said = said} {reads = reads} {room = room} la lb d e st stays counts agree = record {
  ip = st.ip;
  dp = st.dp;
  in_ip = record {
    records = same_records reads.ip d.ip e.ip st.ip st.in_ip.records stays.0;
    offsets_are = st.in_ip.offsets_are;
    fewer = st.in_ip.fewer;
    end = st.in_ip.end;
  };
  in_dp = subst (λ (file : List ℕ). Lie said.dp reads.dp room.dp file st.dp) (sym stays.1) st.in_dp;
  agree = λ left is.
      let a = agree left is in
      record { ip = a.ip ∙ sym counts.0; dp = a.dp ∙ ap (λ (l : List ℕ). take said.dp.end l) (sym stays.1) };
  vcr = st.vcr;
  note_ip = st.note_ip;
  note_dp = st.note_dp;
  fits_ip = st.fits_ip;
  fits_dp = st.fits_dp;
}
stands_stays Dp {said = said} {reads = reads} {room = room} la lb d e st stays counts agree = record {
  ip = st.ip;
  dp = st.dp;
  in_ip = subst (λ (file : List ℕ). Lie said.ip reads.ip room.ip file st.ip) (sym stays.1) st.in_ip;
  in_dp = record {
    records = same_records reads.dp d.dp e.dp st.dp st.in_dp.records stays.0;
    offsets_are = st.in_dp.offsets_are;
    fewer = st.in_dp.fewer;
    end = st.in_dp.end;
  };
  agree = λ left is.
      let a = agree left is in
      record { ip = a.ip ∙ ap (λ (l : List ℕ). take said.ip.end l) (sym stays.1); dp = a.dp ∙ sym counts.0 };
  vcr = st.vcr;
  note_ip = st.note_ip;
  note_dp = st.note_dp;
  fits_ip = st.fits_ip;
  fits_dp = st.fits_dp;
}

abbrev read_ok : Cartridge → Result Cartridge Refusal
read_ok c = Ok c

whole_stays : (part : Part) {limits : Limits} {said reads : SlotValue} {room : Offsets} (la : Files → Type 0) (d e : Files) (st : Stands limits said reads room la d)
    (stays : FileStays part reads d e) (counts : FileStays part said d e)
    → read_ok (whole (stands_stays part la (λ f. ⊥) d e st stays counts (λ left none. absurd none))) ≡ read_ok (whole st)
unfolding stands_stays
whole_stays Ip la d e st stays counts = refl
whole_stays Dp la d e st stays counts = refl

-- where what counts and what reads ends in the file
ends_of : (part : Part) {limits : Limits} {said reads : SlotValue} {room : Offsets} {leaves : Files → Type 0} {d : Files} → Stands limits said reads room leaves d
    → ((half_of part said).end ≤ (half_of part reads).end) × ((half_of part reads).end ≤ length (bytes_of (file_of part) d))
ends_of Ip {said = said} {reads = reads} {room = room} {d = d} st = said_within said.ip reads.ip room.ip d.ip st.ip st.in_ip
ends_of Dp {said = said} {reads = reads} {room = room} {d = d} st = said_within said.dp reads.dp room.dp d.dp st.dp st.in_dp

agreed_end : (part : Part) (said : SlotValue) (d before : Files) → Agree said d before → (half_of part said).end ≤ length (bytes_of (file_of part) d)
    → (half_of part said).end ≤ length (bytes_of (file_of part) before)
agreed_end Ip said d before a le = agreed_size said.ip.end before.ip d.ip a.ip le
agreed_end Dp said d before a le = agreed_size said.dp.end before.dp d.dp a.dp le

module _ {D T E : Type 0} (disk : Ghosts D) (r : Result T E) (part : Part) (at : ℕ) (bytes : List ℕ) (v w : View D) (s : slot.View D) (is : v ≡ w) (kept : IsKept disk v)
    (settled_w : w.doubt ≡ Settled) (place_w : (half_of part w.reads).end ≤ at) (within_w : IfSome (disk.held w.slots.disk) (λ d. at ≤ length (bytes_of (file_of part) d)))
    (told : (d : Files) → disk.held v.slots.disk ≡ Some d → (e : Files) × (disk.held s.disk ≡ Some e) × AfterWrite r (file_of part) at bytes d e)
    (untold : disk.held v.slots.disk ≡ None → disk.held s.disk ≡ None)
    (done : slot.IsCommand disk (WithinWrite (file_of part) at (length bytes)) r v.slots s) where
  settled : v.doubt ≡ Settled
  settled = ap (λ (x : View D). x.doubt) is ∙ settled_w

  place : (half_of part v.reads).end ≤ at
  place = subst (λ (x : View D). (half_of part x.reads).end ≤ at) (sym is) place_w

  within : (d : Files) → disk.held v.slots.disk ≡ Some d → at ≤ length (bytes_of (file_of part) d)
  within d held = held_has (disk.held w.slots.disk) (λ d'. at ≤ length (bytes_of (file_of part) d')) within_w d (ap (λ (x : View D). disk.held x.slots.disk) (sym is) ∙ held)

  tells : (d : Files) → disk.held v.slots.disk ≡ Some d → Tells Settled v (disk.leaves v.slots.disk) d
  tells d held = tells_of disk v kept settled d held

  -- what a crash leaves agrees, and has the header
  left_agrees : (d : Files) → disk.held v.slots.disk ≡ Some d → (before left : Files) → disk.leaves v.slots.disk before → WithinWrite (file_of part) at (length bytes) before left
      → Agree v.base d left × (header v.room.limits left.cm ≡ Some v.base)
  left_agrees d held before left was step =
      let h = tells d held in
      let ends = ends_of part h.0 in
      let a = h.0.agree before was in
      let stays = stays_touched part v.base at (length bytes) before left step.others (any_touched step.any) (omega (arith, ends.0, place))
      (agreed_end part v.base d before a (omega (arith, ends.0, ends.1))) in
      (agree_stays part v.base d before left a stays, ap (λ (l : List ℕ). header v.room.limits l) (cm_stays part v.base before left stays) ∙ h.2 before was)

  left_opens : (d : Files) (held : disk.held v.slots.disk ≡ Some d) (before left : Files) → disk.leaves v.slots.disk before
      → WithinWrite (file_of part) at (length bytes) before left → Opens v.room.limits left (counted (tells d held).0)
  left_opens d held before left was step =
      let a = left_agrees d held before left was step in agreed_opens (tells d held).0 left a.0 a.1

  before_opens : (d : Files) (held : disk.held v.slots.disk ≡ Some d) (before : Files) → disk.leaves v.slots.disk before → Opens v.room.limits before (counted (tells d held).0)
  before_opens d held before was = agreed_opens (tells d held).0 before ((tells d held).0.agree before was) ((tells d held).2 before was)

  always_behind : AlwaysOpens disk v.room.limits v.opened s.disk
  always_behind = goes_on disk v.room.limits v.opened v.slots.disk s.disk kept.reached kept.always
      (λ e now.
      let was = told_before (disk.held v.slots.disk) (disk.held s.disk) untold e now in
      (was.0, was.1, done.crash, λ before left left_before step. (counted (tells was.0 was.1).0, left_opens was.0 was.1 before left left_before step)))

  file_stays : (d e : Files) → disk.held v.slots.disk ≡ Some d → disk.held s.disk ≡ Some e → FileStays part v.reads d e × FileStays part v.base d e
  file_stays d e held now =
      let t = told d held in
      let same : t.0 ≡ e = same_files (disk.held s.disk) e t.0 now t.1 in
      let after = subst (λ (f : Files). AfterWrite r (file_of part) at bytes d f) same t.2 in
      let touches = write_touches r part at bytes d e (within d held) after in
      let ends = ends_of part (tells d held).0 in (
        stays_touched part v.reads at (length bytes) d e touches.0 touches.1 place ends.1,
        stays_touched part v.base at (length bytes) d e touches.0 touches.1 (omega (arith, ends.0, place)) (omega (arith, ends.0, ends.1)),
      )

  -- the same items read
  same_read : (d e : Files) → disk.held v.slots.disk ≡ Some d → disk.held s.disk ≡ Some e → image_by e (Some v.reads) ≡ image_by d (Some v.reads)
  same_read d e held now =
      let h = tells d held in
      let stays = file_stays d e held now in
      is_whole (stands_stays part (disk.leaves v.slots.disk) (λ f. ⊥) d e h.0 stays.0 stays.1 (λ left none. absurd none)) ∙ whole_stays part (disk.leaves v.slots.disk) d e h.0 stays.0 stays.1
      ∙ sym (is_whole h.0)

  read_on : (o p : Option Files) → disk.held v.slots.disk ≡ o → disk.held s.disk ≡ p → held_by (with_slots s v) p ≡ held_by v o
  read_on None None eo ep = refl
  read_on None (Some e) eo ep = absurd (let bad : Some e ≡ None = sym ep ∙ untold eo in cc bad)
  read_on (Some d) None eo ep = absurd (let t = told d eo in let bad : None ≡ Some t.0 = sym ep ∙ t.1 in cc bad)
  read_on (Some d) (Some e) eo ep =
      ap (λ (x : Doubt). given (image_by e (Some (reading_by x v.base v.reads (header v.room.limits e.cm))))) settled
      ∙ ap given (same_read d e eo ep)
      ∙ sym (ap (λ (x : Doubt). given (image_by d (Some (reading_by x v.base v.reads (header v.room.limits d.cm))))) settled)

  held_behind : held_of disk (with_slots s v) ≡ held_of disk v
  held_behind = read_on (disk.held v.slots.disk) (disk.held s.disk) refl refl

  -- a tape is still one when bytes were written behind its records
  pub kept_behind : IsKept disk (with_slots s v)
  kept_behind = record {
    limits = kept.limits;
    holds = kept.holds;
    suits = subst (λ (o : Doubt). Suits o (with_slots s v)) (sym settled) (done.over.known ∙ subst (λ (o : Doubt). Suits o v) settled kept.suits);
    reached = omega (arith, kept.reached, (one_at_most done.count).later);
    always = always_behind;
    past = earlier_on disk v.past (disk.commands v.slots.disk) (disk.commands s.disk) (one_at_most done.count).later kept.past;
    within = λ p c head is_held. kept.within p c head (sym held_behind ∙ is_held);
    tells = λ e now.
        let was = told_before (disk.held v.slots.disk) (disk.held s.disk) untold e now in
        let h = tells was.0 was.1 in
        let stays = file_stays was.0 e was.1 now in
        let from : (left : Files) → disk.leaves s.disk left → Agree v.base was.0 left × (header v.room.limits left.cm ≡ Some v.base) =
        λ left is_left. let b = done.crash.now left is_left in left_agrees was.0 was.1 b.0 left b.1 b.2 in
        subst (λ (o : Doubt). Tells o (with_slots s v) (disk.leaves s.disk) e) (sym settled) (
          stands_stays part (disk.leaves v.slots.disk) (disk.leaves s.disk) was.0 e h.0 stays.0 stays.1 (λ left is_left. (from left is_left).0),
          ap (λ (l : List ℕ). header v.room.limits l) (cm_stays part v.reads was.0 e stays.0) ∙ h.1,
          λ left is_left. (from left is_left).1,
          ap (λ (l : List ℕ). header_by v.room.limits (Some l)) done.over.value ∙ h.3,
        );
  }

  crashes_behind : (d : Files) → disk.held v.slots.disk ≡ Some d → CrashesOn disk v.room.limits NothingNew v (with_slots s v)
  crashes_behind d held = lifted_still disk v.room.limits v.reads.vcr v.reads.vcr v.slots.disk s.disk refl
      (λ now. told_before (disk.held v.slots.disk) (disk.held s.disk) untold now.0 now.1)
      (λ was. let t = told was.0 was.1 in (t.0, t.1)) done.crash
      (λ before left c left_before step opens now.
      let same : c ≡ counted (tells d held).0 = same_cartridge _ _ c (left_opens d held before left left_before step) opens in
      subst (λ (x : Cartridge). Opens v.room.limits before x) (sym same) (before_opens d held before left_before))

  -- bytes written behind the records show in no reading and no image
  pub hides_behind : Hides disk 1 w (with_slots s v)
  hides_behind = subst (λ (x : View D). Hides disk 1 x (with_slots s v)) is (record {
    stays = record { limits = refl; faults = refl; opened = refl };
    held = held_behind;
    count = one_at_most done.count;
    crash = λ c held. let t = told_files disk v settled c held in crashes_behind t.0 t.1;
  })

  told_at : (d : Files) → disk.held w.slots.disk ≡ Some d → disk.held v.slots.disk ≡ Some d
  told_at d held = ap (λ (x : View D). disk.held x.slots.disk) is ∙ held

  -- the bytes of a write follow what stood before them in the file
  pub follows_at : (r' : Result T E) → r ≡ r' → (d : Files) → disk.held w.slots.disk ≡ Some d → (e : Files) × (disk.held s.disk ≡ Some e)
      × OnOk r' (FollowsIn at bytes (bytes_of (file_of part) d) (bytes_of (file_of part) e))
  follows_at r' same d held =
      let t = told d (told_at d held) in (
        t.0,
        t.1,
        subst (λ (x : Result T E). OnOk x (FollowsIn at bytes (bytes_of (file_of part) d) (bytes_of (file_of part) t.0))) same
            (write_follows r part at bytes d t.0 (within d (told_at d held)) t.2),
      )

module _ {D : Type 0} (disk : Ghosts D) where
  -- where no command is done, nothing shows
  pub no_hides : (v : View D) → Hides disk 0 v v
  no_hides v = record {
    stays = record { limits = refl; faults = refl; opened = refl };
    held = refl;
    count = record { later = omega arith; bound = omega arith };
    crash = λ c held. no_step (disk.commands v.slots.disk) _ _ (λ image left. refl);
  }

  -- commands that nothing shows, one behind the other, show nothing
  pub then_hides : (m n : ℕ) (a b c : View D) → Hides disk m a b → Hides disk n b c → Hides disk (m + n) a c
  then_hides m n a b c first second = record {
    stays = record {
      limits = second.stays.limits ∙ first.stays.limits;
      faults = second.stays.faults ∙ first.stays.faults;
      opened = second.stays.opened ∙ first.stays.opened;
    };
    held = second.held ∙ first.held;
    count = then_at_most first.count second.count;
    crash = λ x held. both_steps join_same first.count.later (first.crash x held)
        (subst (λ (l : Limits). CrashesOn disk l NothingNew b c) first.stays.limits (second.crash x (first.held ∙ held)));
  }

  -- what shows nothing with so many commands at most does so with more at most
  pub more_hides : (m n : ℕ) (a b : View D) → m ≤ n → Hides disk m a b → Hides disk n a b
  more_hides m n a b le hides = record { stays = hides.stays; held = hides.held; count = more_at_most m n le hides.count; crash = hides.crash }

  -- what reads ends within its file
  pub ends_within : (part : Part) (v w : View D) (end : ℕ) → v ≡ w → IsKept disk v → w.doubt ≡ Settled → end ≡ (half_of part v.reads).end
      → IfSome (disk.held w.slots.disk) (λ d. end ≤ length (bytes_of (file_of part) d))
  ends_within part v w end is kept settled same = subst (λ (x : View D). IfSome (disk.held x.slots.disk) (λ d. end ≤ length (bytes_of (file_of part) d))) is
      (where_told (disk.held v.slots.disk) (λ d. end ≤ length (bytes_of (file_of part) d))
      (λ d held. omega (arith, same, (ends_of part (tells_of disk v kept (ap (λ (x : View D). x.doubt) is ∙ settled) d held).0).1)))

  -- behind a write another one has its place
  pub next_within : {T E : Type 0} (part : Part) (a b : View D) (r : Result T E) (at : ℕ) (bytes : List ℕ) (n : ℕ) → length bytes ≡ n
      → (disk.held a.slots.disk ≡ None → disk.held b.slots.disk ≡ None)
      → ((d : Files) → disk.held a.slots.disk ≡ Some d → (e : Files) × (disk.held b.slots.disk ≡ Some e) × FollowsIn at bytes (bytes_of (file_of part) d) (bytes_of (file_of part) e))
      → IfSome (disk.held b.slots.disk) (λ d. at + n ≤ length (bytes_of (file_of part) d))
  next_within part a b r at bytes n size untold told = where_told (disk.held b.slots.disk) (λ d. at + n ≤ length (bytes_of (file_of part) d))
      (λ e now.
      let was = told_before (disk.held a.slots.disk) (disk.held b.slots.disk) untold e now in
      let t = told was.0 was.1 in
      let same : t.0 ≡ e = same_files (disk.held b.slots.disk) e t.0 now t.1 in
      omega (arith, size, t.2.within, ap (λ (f : Files). length (bytes_of (file_of part) f)) same))

  -- the record stands behind the others
  pub record_behind : {T E : Type 0} (part : Part) (a b c : View D) (r : Result T E) (at : ℕ) (first second : List ℕ) (n : ℕ) → length first ≡ n
      → IfSome (disk.held a.slots.disk) (λ d. at ≤ length (bytes_of (file_of part) d))
      → (disk.held a.slots.disk ≡ None → disk.held b.slots.disk ≡ None) → (disk.held b.slots.disk ≡ None → disk.held c.slots.disk ≡ None)
      → ((d : Files) → disk.held a.slots.disk ≡ Some d → (e : Files) × (disk.held b.slots.disk ≡ Some e) × FollowsIn at first (bytes_of (file_of part) d) (bytes_of (file_of part) e))
      → ((d : Files) → disk.held b.slots.disk ≡ Some d → (e : Files) × (disk.held c.slots.disk ≡ Some e)
      × OnOk r (FollowsIn (at + n) second (bytes_of (file_of part) d) (bytes_of (file_of part) e)))
      → OnOk r ((e : Files) → disk.held c.slots.disk ≡ Some e → StandBehind at (first ++ second) (bytes_of (file_of part) e))
  record_behind part a b c (Ok x) at first second n size within untold_a untold_b one two = λ e now.
      let mid = told_before (disk.held b.slots.disk) (disk.held c.slots.disk) untold_b e now in
      let was = told_before (disk.held a.slots.disk) (disk.held b.slots.disk) untold_a mid.0 mid.1 in
      let t1 = one was.0 was.1 in
      let t2 = two mid.0 mid.1 in
      let same1 : t1.0 ≡ mid.0 = same_files (disk.held b.slots.disk) mid.0 t1.0 mid.1 t1.1 in
      let same2 : t2.0 ≡ e = same_files (disk.held c.slots.disk) e t2.0 now t2.1 in
      stand_behind at first second (bytes_of (file_of part) was.0) (bytes_of (file_of part) mid.0) (bytes_of (file_of part) e)
      (held_has (disk.held a.slots.disk) (λ d. at ≤ length (bytes_of (file_of part) d)) within was.0 was.1)
      (subst (λ (f : Files). FollowsIn at first (bytes_of (file_of part) was.0) (bytes_of (file_of part) f)) same1 t1.2)
      (subst (λ (k : ℕ). FollowsIn (at + k) second (bytes_of (file_of part) mid.0) (bytes_of (file_of part) e)) (sym size)
      (subst (λ (f : Files). FollowsIn (at + n) second (bytes_of (file_of part) mid.0) (bytes_of (file_of part) f)) same2 t2.2))
  record_behind part a b c (Err why) at first second n size within untold_a untold_b one two = tt

-- a head has five bytes
pub head_size : (h : Head) → length (head_bytes h) ≡ 5
head_size (heads.Block size) = refl
head_size heads.Mark = refl
head_size heads.Torn = refl

-- the bytes of two writes stand behind the records, one after the other
pub behind_at : {D T E : Type 0} (disk : Ghosts D) (part : Part) (r : Result T E) (c : View D) (at at' : ℕ) (first first' second : List ℕ) → at ≡ at' → first ≡ first'
    → OnOk r ((e : Files) → disk.held c.slots.disk ≡ Some e → StandBehind at (first ++ second) (bytes_of (file_of part) e))
    → OnOk r ((e : Files) → disk.held c.slots.disk ≡ Some e → StandBehind at' (first' ++ second) (bytes_of (file_of part) e))
behind_at disk part r c at at' first first' second ea ef h =
    subst (λ (k : ℕ). OnOk r ((e : Files) → disk.held c.slots.disk ≡ Some e → StandBehind k (first' ++ second) (bytes_of (file_of part) e))) ea
    (subst (λ (l : List ℕ). OnOk r ((e : Files) → disk.held c.slots.disk ≡ Some e → StandBehind at (l ++ second) (bytes_of (file_of part) e))) ef h)
