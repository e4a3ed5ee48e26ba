-- The reference goes up, and a partition is cut with it.
use Rattle.std.proofs.Common.{◌≡◌, ℕ, ◌+◌, ◌^◌, ◌<◌, ◌≤◌, ⊎_elim, inl, inr, Bool, false, List, ◌++◌, take, length, get_or, Option, Some, None, Result, Ok, Err, OnOk, refl, sym, ap, ◌∙◌, subst, arith}
use Rattle.std.specs.List.{flat_map}
use Rattle.std.proofs.lemmas.List.{append-nil, take-append-le, take-take, length-take-le}
use Rattle.tape_types.specs.Cartridges.{items_of}
use Rattle.tape_types.specs.declared.cartridges.Cartridge.{Cartridge}
use Rattle.tape_types.specs.declared.cartridges.Item.{Item}
use Rattle.tape_types.specs.declared.cartridges.Part.{Part}
use Rattle.tape_types.specs.declared.cartridges.Part.TheVariants.{Ip, Dp}
use Rattle.tape_types.specs.declared.cartridges.Place.{Place}
use Rattle.tape_drive.specs.Commands.{KeepsRest, VcrRose}
use Rattle.tape_drive.specs.Crashes.{WithinWrite}
use Rattle.byte_disk.specs.Files.{Files}
use Rattle.byte_disk.specs.declared.disk.ByteDisk.{Ghosts}
use Rattle.image_slots.proofs.Chains.{no_step, other_step, told_before}
use Rattle.image_format.specs.declared.values.Half.{Half}
use Rattle.image_format.specs.declared.values.SlotValue.{SlotValue}
use Rattle.image_format.specs.Images.{cartridge_of, tail_of}
use Rattle.image_format.specs.Offsets.{offsets_of}
use Rattle.image_format.specs.Records.{record_bytes}
use Rattle.image_tape.specs.declared.doubt.Doubt.TheVariants.{Settled}
use Rattle.image_tape.specs.Halves.{ended, half_of, with_serial, with_vcr}
use Rattle.image_tape.specs.Steps.{AfterCommit, IsCommit, IsTaken, MayStand}
use Rattle.image_tape.specs.Tape.{Holds, IsKept, Lie, Stands, View, cut_to, held_of, with_reference}
use Rattle.image_tape.specs.Writes.{AfterRise, HasRisen, IsCounted, IsUncounted, Rises, cut_value}
use Rattle.image_tape.proofs.Fronts.{fewer_offsets, fewer_records, front_size, offset_is}
use Rattle.image_tape.proofs.Opened.{counted, is_counted, is_whole, whole}
use Rattle.image_tape.proofs.Telling.{held_is_whole, tells_of}
use Rattle.image_tape.proofs.Wholes.{all_hold, back, lie_like, none_held, referred_stand, settled_taken, untold_held}

-- the first records alone
lie_cut : (said reads : Half) (pos end : ℕ) (offsets file : List ℕ) (items : List Item) → pos < reads.count → end ≡ get_or offsets pos 0
    → Lie said reads offsets file items → Lie (ended pos end false said) (ended pos end false reads) (take pos offsets) file (take pos items)
lie_cut said reads pos end offsets file items lt is lie =
    let within : pos < length items = omega (arith, lt, lie.records.count) in
    let place : end ≡ length (flat_map record_bytes (take pos items)) =
    is ∙ ap (λ (l : List ℕ). get_or l pos 0) lie.offsets_are ∙ offset_is 0 pos items 0 within ∙ omega arith in
    record {
      records = fewer_records reads (ended pos end false reads) file items lie.records (omega (arith, lt)) place;
      offsets_are = ap (λ (l : List ℕ). take pos l) lie.offsets_are ∙ fewer_offsets 0 pos items;
      fewer = omega arith;
      end = place ∙ ap (λ (l : List Item). length (flat_map record_bytes l)) (sym (take-take pos pos items (omega arith)));
    }

-- it ends no later than what counted
cut_end : (said reads : Half) (pos end : ℕ) (offsets file : List ℕ) (items : List Item) → pos < said.count → pos < reads.count → end ≡ get_or offsets pos 0
    → Lie said reads offsets file items → end ≤ said.end
cut_end said reads pos end offsets file items less lt is lie =
    let within : pos < length items = omega (arith, lt, lie.records.count) in
    let place : end ≡ length (flat_map record_bytes (take pos items)) =
    is ∙ ap (λ (l : List ℕ). get_or l pos 0) lie.offsets_are ∙ offset_is 0 pos items 0 within ∙ omega arith in
    omega (
      arith,
      place,
      lie.end,
      ap (λ (l : List Item). length (flat_map record_bytes l)) (take-take pos said.count items (omega (arith, less))),
      front_size pos (take said.count items),
    )

shorter_front : (n m : ℕ) (a b : List ℕ) → n ≤ m → take m a ≡ take m b → take n a ≡ take n b
shorter_front n m a b le same = sym (take-take n m a le) ∙ ap (λ (l : List ℕ). take n l) same ∙ take-take n m b le

-- items cut at a position are cut so with a Torn behind them too
pub cut_items : (pos : ℕ) (items : List Item) (torn : Bool) → pos ≤ length items → take pos items ++ tail_of false ≡ take pos (items ++ tail_of torn)
cut_items pos items torn le = append-nil (take pos items) ∙ sym (take-append-le pos items (tail_of torn) le)

module _ {D : Type 0} (disk : Ghosts D) (v : View D) (kept : IsKept disk v) (settled : v.doubt ≡ Settled) (vcr : ℕ) (next : vcr ≡ v.reads.vcr + 1) (range : vcr < 2 ^ 64) where
  -- what counts of the files that the disk tells, and what reads of them
  abbrev pub st0 : (d : Files) → disk.held v.slots.disk ≡ Some d → Stands v.room.limits v.base v.reads v.room (disk.leaves v.slots.disk) d
  st0 d is = (tells_of disk v kept settled d is).0

  -- nothing is cut
  abbrev pub risen_stand : MayStand disk (with_vcr vcr v.base) (with_vcr vcr v.reads) v
  risen_stand = referred_stand disk v kept settled vcr vcr (omega arith)

  pub risen_hold : Holds (cut_to (with_vcr vcr v.reads) v.room) (with_vcr vcr v.reads)
  risen_hold = let h = all_hold disk v kept in record { ip = h.ip; dp = h.dp; fits_ip = h.fits_ip; fits_dp = h.fits_dp }

  rose : (old new : Cartridge) → old.vcr ≡ v.reads.vcr → new.vcr ≡ vcr → VcrRose old new
  rose old new was is = record { by_one = omega (arith, was, is, next); in_range = omega (arith, is, range) }

  same_rest : (part : Part) (c : Cartridge) → KeepsRest part c c
  same_rest part c = record { other_part = refl; note_ip = refl; note_dp = refl }

  pub reference_of : (part : Part) (s : SlotValue) (ip dp : List Item) (n : ℕ)
      → (items_of part (cartridge_of (with_vcr n s) ip dp) ≡ items_of part (cartridge_of s ip dp)) × KeepsRest part (cartridge_of s ip dp) (cartridge_of (with_vcr n s) ip dp)
  reference_of Ip s ip dp n = (refl, record { other_part = refl; note_ip = refl; note_dp = refl })
  reference_of Dp s ip dp n = (refl, record { other_part = refl; note_ip = refl; note_dp = refl })

  pub risen_has : (part : Part) (pos : ℕ) (d : Files) (is : disk.held v.slots.disk ≡ Some d) → HasRisen part pos (whole (st0 d is)) (whole (risen_stand d is))
  unfolding referred_stand
  risen_has part pos d is =
      let st = st0 d is in
      let w = reference_of part v.reads st.ip st.dp vcr in
      record { items = inl w.0; vcr = rose (whole st) (cartridge_of (with_vcr vcr v.reads) st.ip st.dp) refl refl; rest = w.1 }

  pub risen_within : (part : Part) (pos : ℕ) (d : Files) (is : disk.held v.slots.disk ≡ Some d) (x : Item)
      → WithinWrite part pos x (whole (st0 d is)) (with_reference v.reads.vcr (counted (st0 d is))) (counted (risen_stand d is))
  unfolding referred_stand
  risen_within Ip pos d is x = record {
    items = inl (refl, inr (rose (whole (st0 d is)) _ refl refl));
    rest = record { other_part = refl; note_ip = refl; note_dp = refl };
  }
  risen_within Dp pos d is x = record {
    items = inl (refl, inr (rose (whole (st0 d is)) _ refl refl));
    rest = record { other_part = refl; note_ip = refl; note_dp = refl };
  }

  -- a partition is cut
  pub cut_stand : (part : Part) (pos end : ℕ) → pos < (half_of part v.base).count → pos < (half_of part v.reads).count → end ≡ get_or (offsets_of part v.room) pos 0
      → MayStand disk (cut_value part pos end (with_vcr vcr v.base)) (cut_value part pos end (with_vcr vcr v.reads)) v
  cut_stand Ip pos end less lt place d is =
      let st = st0 d is in
      record {
        ip = take pos st.ip;
        dp = st.dp;
        in_ip = lie_cut v.base.ip v.reads.ip pos end v.room.ip d.ip st.ip lt place st.in_ip;
        in_dp = lie_like v.base.dp v.reads.dp v.base.dp v.reads.dp v.room.dp d.dp st.dp refl refl refl refl kept.holds.dp st.in_dp;
        agree = λ image left.
            let a = st.agree image left in
            record { ip = shorter_front end v.base.ip.end image.ip d.ip (cut_end v.base.ip v.reads.ip pos end v.room.ip d.ip st.ip less lt place st.in_ip) a.ip; dp = a.dp };
        vcr = omega arith;
        note_ip = st.note_ip;
        note_dp = st.note_dp;
        fits_ip = omega (arith, st.fits_ip, less);
        fits_dp = st.fits_dp;
      }
  cut_stand Dp pos end less lt place d is =
      let st = st0 d is in
      record {
        ip = st.ip;
        dp = take pos st.dp;
        in_ip = lie_like v.base.ip v.reads.ip v.base.ip v.reads.ip v.room.ip d.ip st.ip refl refl refl refl kept.holds.ip st.in_ip;
        in_dp = lie_cut v.base.dp v.reads.dp pos end v.room.dp d.dp st.dp lt place st.in_dp;
        agree = λ image left.
            let a = st.agree image left in
            record { ip = a.ip; dp = shorter_front end v.base.dp.end image.dp d.dp (cut_end v.base.dp v.reads.dp pos end v.room.dp d.dp st.dp less lt place st.in_dp) a.dp };
        vcr = omega arith;
        note_ip = st.note_ip;
        note_dp = st.note_dp;
        fits_ip = st.fits_ip;
        fits_dp = omega (arith, st.fits_dp, less);
      }

  pub cut_hold : (part : Part) (pos end : ℕ) → pos < (half_of part v.reads).count
      → Holds (cut_to (cut_value part pos end (with_vcr vcr v.reads)) v.room) (cut_value part pos end (with_vcr vcr v.reads))
  cut_hold Ip pos end lt =
      let h = all_hold disk v kept in
      record {
        ip = length-take-le pos v.room.ip (omega (arith, lt, kept.holds.ip));
        dp = h.dp;
        fits_ip = omega (arith, kept.holds.fits_ip, lt);
        fits_dp = h.fits_dp;
      }
  cut_hold Dp pos end lt =
      let h = all_hold disk v kept in
      record {
        ip = h.ip;
        dp = length-take-le pos v.room.dp (omega (arith, lt, kept.holds.dp));
        fits_ip = h.fits_ip;
        fits_dp = omega (arith, kept.holds.fits_dp, lt);
      }

  pub cut_has : (part : Part) (pos end : ℕ) (less : pos < (half_of part v.base).count) (lt : pos < (half_of part v.reads).count) (place : end ≡ get_or (offsets_of part v.room) pos 0)
      (d : Files) (is : disk.held v.slots.disk ≡ Some d) → HasRisen part pos (whole (st0 d is)) (whole (cut_stand part pos end less lt place d is))
  unfolding cut_stand
  cut_has Ip pos end less lt place d is =
      let st = st0 d is in
      record {
        items = inr (cut_items pos st.ip v.reads.ip.torn (omega (arith, lt, st.in_ip.records.count)));
        vcr = rose (whole st) _ refl refl;
        rest = record { other_part = refl; note_ip = refl; note_dp = refl };
      }
  cut_has Dp pos end less lt place d is =
      let st = st0 d is in
      record {
        items = inr (cut_items pos st.dp v.reads.dp.torn (omega (arith, lt, st.in_dp.records.count)));
        vcr = rose (whole st) _ refl refl;
        rest = record { other_part = refl; note_ip = refl; note_dp = refl };
      }

  counted_cut : (pos : ℕ) (items : List Item) (torn : Bool) → pos ≤ length items → take pos (take pos items) ++ tail_of false ≡ take pos (items ++ tail_of torn)
  counted_cut pos items torn le =
      ap (λ (l : List Item). l ++ tail_of false) (take-take pos pos items (omega arith)) ∙ cut_items pos items torn le

  pub cut_within : (part : Part) (pos end : ℕ) (less : pos < (half_of part v.base).count) (lt : pos < (half_of part v.reads).count) (place : end ≡ get_or (offsets_of part v.room) pos 0)
      (d : Files) (is : disk.held v.slots.disk ≡ Some d) (x : Item)
      → WithinWrite part pos x (whole (st0 d is)) (with_reference v.reads.vcr (counted (st0 d is))) (counted (cut_stand part pos end less lt place d is))
  unfolding cut_stand
  cut_within Ip pos end less lt place d is x =
      let st = st0 d is in
      record {
        items = inr (inl (inl (counted_cut pos st.ip v.reads.ip.torn (omega (arith, lt, st.in_ip.records.count)))), rose (whole st) _ refl refl);
        rest = record { other_part = refl; note_ip = refl; note_dp = refl };
      }
  cut_within Dp pos end less lt place d is x =
      let st = st0 d is in
      record {
        items = inr (inl (inl (counted_cut pos st.dp v.reads.dp.torn (omega (arith, lt, st.in_dp.records.count)))), rose (whole st) _ refl refl);
        rest = record { other_part = refl; note_ip = refl; note_dp = refl };
      }

half_numbered : (part : Part) (n : ℕ) (s : SlotValue) → half_of part (with_serial n s) ≡ half_of part s
half_numbered Ip n s = refl
half_numbered Dp n s = refl

after_rise : {T E : Type 0} (r : Result T E) (part : Part) (pos : ℕ) (c e : Cartridge) (held : Option Cartridge) → HasRisen part pos c e → AfterCommit r c e held
    → (x : Cartridge) × (held ≡ Some x) × AfterRise r part pos c x
after_rise (Ok x) part pos c e held is h = (e, h, is)
after_rise (Err why) part pos c e held is (inl h) = (c, h, inl refl)
after_rise (Err why) part pos c e held is (inr h) = (e, h, inr is)

module _ {D T E : Type 0} (disk : Ghosts D) (r : Result T E) (at : Place) (value reads : SlotValue) (v n : View D) (kept : IsKept disk v) (settled : v.doubt ≡ Settled)
    (stands : MayStand disk value reads v) where
  abbrev st : (d : Files) → disk.held v.slots.disk ≡ Some d → Stands v.room.limits v.base v.reads v.room (disk.leaves v.slots.disk) d
  st d is = (tells_of disk v kept settled d is).0

  cut_taken : (r : Result T E) → OnOk r (IsTaken value reads v n) → ((d : Files) → disk.held v.slots.disk ≡ Some d → (half_of at.part value).count ≤ at.pos)
      → (disk.held v.slots.disk ≡ None → disk.held n.slots.disk ≡ None)
      → OnOk r ((d : Files) → disk.held n.slots.disk ≡ Some d → (half_of at.part n.base).count ≤ at.pos)
  cut_taken (Ok x) taken below untold = λ d is.
      let was = told_before (disk.held v.slots.disk) (disk.held n.slots.disk) untold d is in
      subst (λ (h : Half). h.count ≤ at.pos) (sym (ap (λ (s : SlotValue). half_of at.part s) taken.base ∙ half_numbered at.part (v.base.serial + 1) value)) (below was.0 was.1)
  cut_taken (Err why) taken below untold = tt

  pub rises_by : ((d : Files) (is : disk.held v.slots.disk ≡ Some d) → HasRisen at.part at.pos (whole (st d is)) (whole (stands d is)))
      → ((d : Files) (is : disk.held v.slots.disk ≡ Some d) (x : Item) → WithinWrite at.part at.pos x (whole (st d is)) (with_reference v.reads.vcr (counted (st d is))) (counted (stands d is)))
      → ((d : Files) → disk.held v.slots.disk ≡ Some d → (half_of at.part value).count ≤ at.pos) → v.reads.vcr + 1 < 2 ^ 64
      → IsCommit disk value reads r v n → OnOk r (IsTaken value reads v n) → Rises disk at r v n
  rises_by has within below low done taken = record {
    stays = done.stays;
    count = done.count;
    settled = settled_taken disk r value reads v n taken;
    cut = cut_taken r taken below done.untold;
    untold = λ none. untold_held disk n (done.untold (none_held disk v kept settled none));
    told = λ c held.
        let t = held_is_whole disk v kept settled c held in
        let to = whole (stands t.0 t.1) in
        after_rise r at.part at.pos c to (held_of disk n) (subst (λ (y : Cartridge). HasRisen at.part at.pos y to) (sym t.2) (has t.0 t.1))
        (subst (λ (y : Cartridge). AfterCommit r y to (held_of disk n)) (sym t.2)
        (done.told t.0 (whole (st t.0 t.1)) to t.1 (is_whole (st t.0 t.1)) (is_whole (stands t.0 t.1))));
    at_end = λ c held most.
        let t = held_is_whole disk v kept settled c held in
        absurd (omega (arith, low, most, ap (λ (y : Cartridge). y.vcr) t.2));
    crash = λ x c held.
        let t = held_is_whole disk v kept settled c held in
        let from = with_reference v.reads.vcr (counted (st t.0 t.1)) in
        let to = counted (stands t.0 t.1) in
        other_step
        (λ before image left step. ⊎_elim
        (λ (old : image ≡ before). subst (λ (y : Cartridge). WithinWrite at.part at.pos x c before y) (sym old)
        (record { items = inl (refl, inl refl); rest = record { other_part = refl; note_ip = refl; note_dp = refl } }))
        (λ (new : (before ≡ from) × (image ≡ to)).
        subst (λ (y : Cartridge). WithinWrite at.part at.pos x c before y) (sym new.1)
        (subst (λ (y : Cartridge). WithinWrite at.part at.pos x c y to) (sym new.0)
        (subst (λ (y : Cartridge). WithinWrite at.part at.pos x y from to) (sym t.2) (within t.0 t.1 x))))
        step)
        (done.crash t.0 (counted (st t.0 t.1)) to t.1 (is_counted (st t.0 t.1)) (is_counted (stands t.0 t.1)));
  }

-- nothing was done
pub rises_not : {D T E : Type 0} (disk : Ghosts D) (at : Place) (why : E) (v : View D) → Rises {T = T} disk at (Err why) v v
rises_not disk at why v = record {
  stays = record { limits = refl; faults = refl; opened = refl };
  count = record { later = omega arith; bound = omega arith };
  settled = tt;
  cut = tt;
  untold = λ none. none;
  told = λ c held. (c, held, inl refl);
  at_end = λ c held most. (refl, held);
  crash = λ x c held. no_step (disk.commands v.slots.disk) _ _
      (λ image left. record { items = inl (refl, inl refl); rest = record { other_part = refl; note_ip = refl; note_dp = refl } });
}

-- where the header counts no item at a place, nor behind
pub uncounted_at : {D : Type 0} (disk : Ghosts D) (at : Place) (v : View D) (kept : IsKept disk v) (settled : v.doubt ≡ Settled) → IsUncounted at v
    → (d : Files) → disk.held v.slots.disk ≡ Some d → (half_of at.part v.base).count ≤ at.pos
uncounted_at disk at v kept settled uncounted d told = ⊎_elim
    (λ (one : (half_of at.part v.base).count ≤ at.pos). one)
    (λ (two : (half_of at.part v.reads).count ≤ at.pos). fewer_of at.part two)
    uncounted
  where
    fewer_of : (part : Part) → (half_of part v.reads).count ≤ at.pos → (half_of part v.base).count ≤ at.pos
    fewer_of Ip two = omega (arith, two, (tells_of disk v kept settled d told).0.in_ip.fewer)
    fewer_of Dp two = omega (arith, two, (tells_of disk v kept settled d told).0.in_dp.fewer)

module _ {D T E : Type 0} (disk : Ghosts D) (r : Result T E) (at : Place) (base reads : SlotValue) (v w n : View D) (is : v ≡ w) (kept : IsKept disk v)
    (settled_w : w.doubt ≡ Settled) (vcr : ℕ) (next : vcr ≡ v.reads.vcr + 1) (range : vcr < 2 ^ 64) where
  settled_v : v.doubt ≡ Settled
  settled_v = ap (λ (x : View D). x.doubt) is ∙ settled_w

  -- a header with the greater reference, set where nothing is cut, lets the reference go up
  pub rises_uncut : base ≡ with_vcr vcr v.base → reads ≡ with_vcr vcr v.reads → IsUncounted at v → IsCommit disk base reads r w n → OnOk r (IsTaken base reads w n)
      → Rises disk at r w n
  rises_uncut eb er uncounted done taken = subst (λ (x : View D). Rises disk at r x n) is
      (rises_by disk r at (with_vcr vcr v.base) (with_vcr vcr v.reads) v n kept settled_v (risen_stand disk v kept settled_v vcr next range)
      (risen_has disk v kept settled_v vcr next range at.part at.pos) (risen_within disk v kept settled_v vcr next range at.part at.pos)
      (λ d told. subst (λ (h : Half). h.count ≤ at.pos) (sym (half_with at.part vcr v.base)) (uncounted_at disk at v kept settled_v uncounted d told))
      (omega (arith, next, range))
      (back (λ b s x. IsCommit disk b s r x n) base reads (with_vcr vcr v.base) (with_vcr vcr v.reads) v w eb er is done)
      (back (λ b s x. OnOk r (IsTaken b s x n)) base reads (with_vcr vcr v.base) (with_vcr vcr v.reads) v w eb er is taken))
    where
      half_with : (part : Part) (k : ℕ) (s : SlotValue) → half_of part (with_vcr k s) ≡ half_of part s
      half_with Ip k s = refl
      half_with Dp k s = refl

  -- a header with the greater reference and a cut, once set, lets the reference go up
  pub rises_cut : (end : ℕ) → IsCounted at end v → base ≡ cut_value at.part at.pos end (with_vcr vcr v.base) → reads ≡ cut_value at.part at.pos end (with_vcr vcr v.reads)
      → IsCommit disk base reads r w n → OnOk r (IsTaken base reads w n) → Rises disk at r w n
  rises_cut end counted_at eb er done taken = subst (λ (x : View D). Rises disk at r x n) is
      (rises_by disk r at _ _ v n kept settled_v
      (cut_stand disk v kept settled_v vcr next range at.part at.pos end counted_at.in_base counted_at.in_reads counted_at.place)
      (cut_has disk v kept settled_v vcr next range at.part at.pos end counted_at.in_base counted_at.in_reads counted_at.place)
      (cut_within disk v kept settled_v vcr next range at.part at.pos end counted_at.in_base counted_at.in_reads counted_at.place)
      (λ d told. cut_count at.part at.pos end (with_vcr vcr v.base))
      (omega (arith, next, range))
      (back (λ b s x. IsCommit disk b s r x n) base reads _ _ v w eb er is done)
      (back (λ b s x. OnOk r (IsTaken b s x n)) base reads _ _ v w eb er is taken))
    where
      cut_count : (part : Part) (pos end : ℕ) (s : SlotValue) → (half_of part (cut_value part pos end s)).count ≤ pos
      cut_count Ip pos end s = omega arith
      cut_count Dp pos end s = omega arith
