-- What reads becomes shorter or longer, and nothing on the disk changes.
use Rattle.std.proofs.Common.{◌≡◌, ℕ, ◌+◌, ◌-◌, ◌*◌, ◌^◌, ◌<◌, ◌≤◌, ◌⊎◌, inl, inr, min, Bool, true, false, List, [], ◌∷◌, ◌++◌, take, length, get_or, Option, Some, None, Result, Ok, Err, OnOk, refl, sym, ap, ◌∙◌, subst, arith}
use Rattle.std.specs.List.{flat_map}
use Rattle.std.proofs.lemmas.List.{append-nil, length-append, length-take-le, take-append-le, take-take, take_all, take_at}
use Rattle.tape_types.specs.Bounds.{most_positions}
use Rattle.tape_types.specs.Cartridges.{IsItem, IsLimits, capacity, items_of}
use Rattle.tape_types.specs.declared.cartridges.Cartridge.{Cartridge}
use Rattle.tape_types.specs.declared.cartridges.Item.{Item}
use Rattle.tape_types.specs.declared.cartridges.Item.TheVariants as item
use Rattle.tape_types.specs.declared.cartridges.Limits.{Limits}
use Rattle.tape_types.specs.declared.cartridges.Part.{Part}
use Rattle.tape_types.specs.declared.cartridges.Part.TheVariants.{Ip, Dp}
use Rattle.tape_types.specs.declared.cartridges.Place.{Place}
use Rattle.tape_drive.specs.declared.drive.DriveErr.{DriveErr}
use Rattle.byte_disk.specs.Files.{Files, bytes_of}
use Rattle.byte_disk.specs.declared.disk.ByteDisk.{Ghosts}
use Rattle.image_slots.specs.State.{file_of}
use Rattle.image_format.specs.declared.values.Half.{Half}
use Rattle.image_format.specs.declared.values.SlotValue.{SlotValue}
use Rattle.image_format.specs.Images.{header, header_by, image_by, tail_of}
use Rattle.image_format.specs.Offsets.{Offsets, offsets_from, offsets_of, with_offsets}
use Rattle.image_format.specs.declared.heads.Head.{Head}
use Rattle.image_format.specs.Records.{AreRecords, head_bytes, record_bytes, width}
use Rattle.image_tape.specs.declared.doubt.Doubt.{Doubt}
use Rattle.image_tape.specs.declared.doubt.Doubt.TheVariants.{Settled}
use Rattle.image_tape.specs.Halves.{ended, half_of, with_half}
use Rattle.crash_steps.specs.Crashes.{NothingNew}
use Rattle.image_tape.specs.Steps.{IsAlike}
use Rattle.image_tape.specs.Tape.{AlwaysOpens, CrashesAt, Holds, IsKept, Lie, Stands, Suits, Tells, View, given, held_by, held_of, reading_by}
use Rattle.image_tape.specs.Writes.{Cuts, HasItems, Hides, IsPlace, Puts, StandBehind, cut_value, put_items}
use Rattle.image_tape.proofs.Heads.{nowhere}
use Rattle.image_tape.proofs.Fronts.{all_bytes, fewer_offsets, fewer_records, offset_is, offsets_more, one_more_record}
use Rattle.image_tape.proofs.Opened.{is_whole, whole}
use Rattle.image_tape.proofs.RecordLemmas.{end_size}
use Rattle.image_tape.proofs.Behind.{head_size}
use Rattle.image_tape.proofs.Rising.{cut_items}
use Rattle.image_tape.proofs.Spots.{small_of}
use Rattle.image_tape.proofs.Telling.{held_is_whole, tells_of}
use Rattle.image_tape.proofs.Wholes.{none_held, untold_held}

-- the first records alone, where all that count are among them
lie_short : (said reads : Half) (pos end : ℕ) (offsets file : List ℕ) (items : List Item) → pos ≤ reads.count → said.count ≤ pos
    → end ≡ length (flat_map record_bytes (take pos items)) → Lie said reads offsets file items → Lie said (ended pos end false reads) (take pos offsets) file (take pos items)
lie_short said reads pos end offsets file items most least place lie = record {
  records = fewer_records reads (ended pos end false reads) file items lie.records most place;
  offsets_are = ap (λ (l : List ℕ). take pos l) lie.offsets_are ∙ fewer_offsets 0 pos items;
  fewer = least;
  end = lie.end ∙ ap (λ (l : List Item). length (flat_map record_bytes l)) (sym (take-take said.count pos items least));
}

place_is : (reads : Half) (pos end : ℕ) (offsets file : List ℕ) (items : List Item) → AreRecords reads file items → offsets ≡ offsets_from 0 items
    → ((pos < reads.count) × (end ≡ get_or offsets pos 0)) ⊎ ((pos ≡ reads.count) × (end ≡ reads.end)) → end ≡ length (flat_map record_bytes (take pos items))
place_is reads pos end offsets file items are at (inl (lt, is)) =
    is ∙ ap (λ (l : List ℕ). get_or l pos 0) at ∙ offset_is 0 pos items 0 (omega (arith, lt, are.count)) ∙ omega arith
place_is reads pos end offsets file items are at (inr (all, is)) =
    is ∙ sym (all_bytes reads file items are)
    ∙ ap (λ (l : List Item). length (flat_map record_bytes l)) (sym (take_all pos items (omega (arith, all, are.count))))

-- one more behind them
lie_more : (said reads : Half) (count end : ℕ) (x : Item) (offsets file : List ℕ) (items : List Item) → IsItem x → count ≡ reads.count + 1 → end ≡ reads.end + width x
    → StandBehind reads.end (record_bytes x) file → Lie said reads offsets file items
    → Lie said (ended count end false reads) (offsets ++ reads.end ∷ []) file (items ++ x ∷ [])
lie_more said reads count end x offsets file items sound more ends stand lie =
    let front_is : take reads.end file ≡ stand.front =
    sym (take-take reads.end (reads.end + width x) file (omega arith)) ∙ ap (λ (l : List ℕ). take reads.end l) stand.is
    ∙ take_at stand.front (record_bytes x) reads.end stand.place in
    let starts : 0 + length (flat_map record_bytes items) ≡ reads.end = omega (arith, all_bytes reads file items lie.records) in
    record {
      records = one_more_record reads (ended count end false reads) file file items x lie.records sound more ends (omega (arith, ends, stand.within))
          (ap (λ (n : ℕ). take n file) ends ∙ stand.is ∙ ap (λ (l : List ℕ). l ++ record_bytes x) (sym front_is));
      offsets_are =
          ap (λ (l : List ℕ). l ++ reads.end ∷ []) lie.offsets_are
          ∙ sym (offsets_more 0 items x ∙ ap (λ (n : ℕ). offsets_from 0 items ++ n ∷ []) starts);
      fewer = omega (arith, more, lie.fewer);
      end = lie.end
          ∙ ap (λ (l : List Item). length (flat_map record_bytes l))
          (sym (take-append-le said.count items (x ∷ []) (omega (arith, lie.fewer, lie.records.count))));
    }

-- a Torn behind them
lie_torn : (said reads : Half) (count end : ℕ) (offsets file : List ℕ) (items : List Item) → count ≡ reads.count → end ≡ reads.end → Lie said reads offsets file items
    → Lie said (ended count end true reads) offsets file items
lie_torn said reads count end offsets file items same ends lie = record {
  records = record {
    count = lie.records.count ∙ sym same;
    each = lie.records.each;
    end = omega (arith, ends, lie.records.end);
    bytes = ap (λ (n : ℕ). take n file) ends ∙ lie.records.bytes;
  };
  offsets_are = lie.offsets_are;
  fewer = omega (arith, same, lie.fewer);
  end = lie.end;
}

-- the records of a partition that read
abbrev pub records_of : (part : Part) {limits : Limits} {said reads : SlotValue} {room : Offsets} {leaves : Files → Type 0} {d : Files}
    → Stands limits said reads room leaves d → List Item
records_of Ip st = st.ip
records_of Dp st = st.dp

-- the items of a partition are those of its records, and a Torn behind them
pub items_are : (part : Part) {limits : Limits} {said reads : SlotValue} {room : Offsets} {leaves : Files → Type 0} {d : Files} (st : Stands limits said reads room leaves d)
    → items_of part (whole st) ≡ records_of part st ++ tail_of (half_of part reads).torn
items_are Ip st = refl
items_are Dp st = refl

pub records_count : (part : Part) {limits : Limits} {said reads : SlotValue} {room : Offsets} {leaves : Files → Type 0} {d : Files} (st : Stands limits said reads room leaves d)
    → length (records_of part st) ≡ (half_of part reads).count
records_count Ip st = st.in_ip.records.count
records_count Dp st = st.in_dp.records.count

-- a partition with few records ends before its greatest length
pub end_small : (part : Part) {limits : Limits} {said reads : SlotValue} {room : Offsets} {leaves : Files → Type 0} {d : Files} (st : Stands limits said reads room leaves d)
    → (half_of part reads).count ≤ most_positions → (half_of part reads).end ≤ most_positions * 1048581
end_small Ip {reads = reads} {d = d} st most = end_size reads.ip d.ip st.ip st.in_ip.records most
end_small Dp {reads = reads} {d = d} st most = end_size reads.dp d.dp st.dp st.in_dp.records most

tail_size : (t : Bool) → length (tail_of t) ≤ 1
tail_size true = omega arith
tail_size false = omega arith

same_limits : (part : Part) (l : List ℕ) (room : Offsets) → (with_offsets part l room).limits ≡ room.limits
same_limits Ip l room = refl
same_limits Dp l room = refl

-- the reference stays
half_number : (part : Part) (h : Half) (s : SlotValue) → (with_half part h s).vcr ≡ s.vcr
half_number Ip h s = refl
half_number Dp h s = refl

module _ {D : Type 0} (disk : Ghosts D) where
  -- the tape on which so much reads, over the same disk
  abbrev pub shaped : SlotValue → Offsets → View D → View D
  shaped reads room v = record {
    slots = v.slots;
    room = room;
    base = v.base;
    reads = reads;
    doubt = v.doubt;
    head = None;
    faults = v.faults;
    opened = v.opened;
    past = v.past;
  }

  -- so much may read of each disk that the tape has
  abbrev pub MayRead : SlotValue → Offsets → View D → Type 0
  MayRead reads room v = (d : Files) → disk.held v.slots.disk ≡ Some d → Stands v.room.limits v.base reads room (disk.leaves v.slots.disk) d

  -- a tape on which another amount reads is one
  pub kept_shaped : (v : View D) (reads : SlotValue) (room : Offsets) → IsKept disk v → v.doubt ≡ Settled → Holds room reads → room.limits ≡ v.room.limits
      → MayRead reads room v → IsKept disk (shaped reads room v)
  kept_shaped v reads room kept settled holds same stands =
      record {
        limits = subst (λ (l : Limits). IsLimits l) (sym same) kept.limits;
        holds = holds;
        suits = subst (λ (o : Doubt). Suits o (shaped reads room v)) (sym settled) (subst (λ (o : Doubt). Suits o v) settled kept.suits);
        reached = kept.reached;
        always = subst (λ (l : Limits). AlwaysOpens disk l v.opened v.slots.disk) (sym same) kept.always;
        past = kept.past;
        within = nowhere _;
        tells = λ d is.
            let h = tells_of disk v kept settled d is in
            subst (λ (o : Doubt). Tells o (shaped reads room v) (disk.leaves v.slots.disk) d) (sym settled) (
              subst (λ (l : Limits). Stands l v.base reads room (disk.leaves v.slots.disk) d) (sym same) (stands d is),
              subst (λ (l : Limits). header l d.cm ≡ Some v.base) (sym same) h.1,
              λ left now. subst (λ (l : Limits). header l left.cm ≡ Some v.base) (sym same) (h.2 left now),
              subst (λ (l : Limits). header_by l (Some v.slots.value) ≡ Some v.base) (sym same) h.3,
            );
      }

  -- the cartridge of a tape on which another amount reads
  pub held_shaped : (v : View D) (reads : SlotValue) (room : Offsets) → v.doubt ≡ Settled → (d : Files) (is : disk.held v.slots.disk ≡ Some d) (stands : MayRead reads room v)
      → held_of disk (shaped reads room v) ≡ Some (whole (stands d is))
  held_shaped v reads room settled d is stands =
      ap (λ (o : Option Files). held_by (shaped reads room v) o) is
      ∙ ap (λ (x : Doubt). given (image_by d (Some (reading_by x v.base reads (header room.limits d.cm))))) settled
      ∙ ap given (is_whole (stands d is))

  module _ (v : View D) (kept : IsKept disk v) (settled : v.doubt ≡ Settled) where
    abbrev pub st0 : (d : Files) → disk.held v.slots.disk ≡ Some d → Stands v.room.limits v.base v.reads v.room (disk.leaves v.slots.disk) d
    st0 d is = (tells_of disk v kept settled d is).0

    -- shorter
    pub short_reads : (part : Part) (pos end : ℕ) → ((d : Files) → disk.held v.slots.disk ≡ Some d → (half_of part v.base).count ≤ pos)
        → pos ≤ (half_of part v.reads).count
        → ((pos < (half_of part v.reads).count) × (end ≡ get_or (offsets_of part v.room) pos 0)) ⊎ ((pos ≡ (half_of part v.reads).count) × (end ≡ (half_of part v.reads).end))
        → MayRead (cut_value part pos end v.reads) (with_offsets part (take pos (offsets_of part v.room)) v.room) v
    short_reads Ip pos end least most at d is =
        let st = st0 d is in
        record {
          ip = take pos st.ip;
          dp = st.dp;
          in_ip = lie_short v.base.ip v.reads.ip pos end v.room.ip d.ip st.ip most (least d is)
              (place_is v.reads.ip pos end v.room.ip d.ip st.ip st.in_ip.records st.in_ip.offsets_are at) st.in_ip;
          in_dp = st.in_dp;
          agree = st.agree;
          vcr = st.vcr;
          note_ip = st.note_ip;
          note_dp = st.note_dp;
          fits_ip = st.fits_ip;
          fits_dp = st.fits_dp;
        }
    short_reads Dp pos end least most at d is =
        let st = st0 d is in
        record {
          ip = st.ip;
          dp = take pos st.dp;
          in_ip = st.in_ip;
          in_dp = lie_short v.base.dp v.reads.dp pos end v.room.dp d.dp st.dp most (least d is)
              (place_is v.reads.dp pos end v.room.dp d.dp st.dp st.in_dp.records st.in_dp.offsets_are at) st.in_dp;
          agree = st.agree;
          vcr = st.vcr;
          note_ip = st.note_ip;
          note_dp = st.note_dp;
          fits_ip = st.fits_ip;
          fits_dp = st.fits_dp;
        }

    pub short_holds : (part : Part) (pos end : ℕ) → pos ≤ (half_of part v.reads).count
        → Holds (with_offsets part (take pos (offsets_of part v.room)) v.room) (cut_value part pos end v.reads)
    short_holds Ip pos end most =
        let h = kept.holds in
        record { ip = length-take-le pos v.room.ip (omega (arith, most, h.ip)); dp = h.dp; fits_ip = omega (arith, h.fits_ip, most); fits_dp = h.fits_dp }
    short_holds Dp pos end most =
        let h = kept.holds in
        record { ip = h.ip; dp = length-take-le pos v.room.dp (omega (arith, most, h.dp)); fits_ip = h.fits_ip; fits_dp = omega (arith, h.fits_dp, most) }

    short_items : (part : Part) (pos end : ℕ) (least : (d : Files) → disk.held v.slots.disk ≡ Some d → (half_of part v.base).count ≤ pos) (most : pos ≤ (half_of part v.reads).count)
        (at : ((pos < (half_of part v.reads).count) × (end ≡ get_or (offsets_of part v.room) pos 0)) ⊎ ((pos ≡ (half_of part v.reads).count) × (end ≡ (half_of part v.reads).end)))
        (d : Files) (is : disk.held v.slots.disk ≡ Some d)
        → HasItems part (take pos (items_of part (whole (st0 d is)))) (whole (st0 d is)) (whole (short_reads part pos end least most at d is))
    unfolding short_reads
    short_items Ip pos end least most at d is =
        let st = st0 d is in
        record {
          are = cut_items pos st.ip v.reads.ip.torn (omega (arith, most, st.in_ip.records.count));
          vcr = refl;
          rest = record { other_part = refl; note_ip = refl; note_dp = refl };
        }
    short_items Dp pos end least most at d is =
        let st = st0 d is in
        record {
          are = cut_items pos st.dp v.reads.dp.torn (omega (arith, most, st.in_dp.records.count));
          vcr = refl;
          rest = record { other_part = refl; note_ip = refl; note_dp = refl };
        }

    -- longer
    pub more_reads : (part : Part) (count end : ℕ) (x : Item) → IsItem x → count ≡ (half_of part v.reads).count + 1
        → ((d : Files) → disk.held v.slots.disk ≡ Some d → end ≡ (half_of part v.reads).end + width x)
        → ((d : Files) → disk.held v.slots.disk ≡ Some d → StandBehind (half_of part v.reads).end (record_bytes x) (bytes_of (file_of part) d))
        → MayRead (with_half part (ended count end false (half_of part v.reads)) v.reads)
        (with_offsets part (offsets_of part v.room ++ (half_of part v.reads).end ∷ []) v.room) v
    more_reads Ip count end x sound more ends stand d is =
        let st = st0 d is in
        record {
          ip = st.ip ++ x ∷ [];
          dp = st.dp;
          in_ip = lie_more v.base.ip v.reads.ip count end x v.room.ip d.ip st.ip sound more (ends d is) (stand d is) st.in_ip;
          in_dp = st.in_dp;
          agree = st.agree;
          vcr = st.vcr;
          note_ip = st.note_ip;
          note_dp = st.note_dp;
          fits_ip = st.fits_ip;
          fits_dp = st.fits_dp;
        }
    more_reads Dp count end x sound more ends stand d is =
        let st = st0 d is in
        record {
          ip = st.ip;
          dp = st.dp ++ x ∷ [];
          in_ip = st.in_ip;
          in_dp = lie_more v.base.dp v.reads.dp count end x v.room.dp d.dp st.dp sound more (ends d is) (stand d is) st.in_dp;
          agree = st.agree;
          vcr = st.vcr;
          note_ip = st.note_ip;
          note_dp = st.note_dp;
          fits_ip = st.fits_ip;
          fits_dp = st.fits_dp;
        }

    pub more_holds : (part : Part) (count end : ℕ) → count ≡ (half_of part v.reads).count + 1 → (half_of part v.reads).count < capacity part v.room.limits
        → Holds (with_offsets part (offsets_of part v.room ++ (half_of part v.reads).end ∷ []) v.room) (with_half part (ended count end false (half_of part v.reads)) v.reads)
    more_holds Ip count end more room =
        let h = kept.holds in
        record {
          ip = omega (arith, length-append v.room.ip (v.reads.ip.end ∷ []), h.ip, more);
          dp = h.dp;
          fits_ip = omega (arith, more, room);
          fits_dp = h.fits_dp;
        }
    more_holds Dp count end more room =
        let h = kept.holds in
        record {
          ip = h.ip;
          dp = omega (arith, length-append v.room.dp (v.reads.dp.end ∷ []), h.dp, more);
          fits_ip = h.fits_ip;
          fits_dp = omega (arith, more, room);
        }

    -- torn
    pub torn_reads : (part : Part) (count end : ℕ) → count ≡ (half_of part v.reads).count → end ≡ (half_of part v.reads).end
        → MayRead (with_half part (ended count end true (half_of part v.reads)) v.reads) v.room v
    torn_reads Ip count end same ends d is =
        let st = st0 d is in
        record {
          ip = st.ip;
          dp = st.dp;
          in_ip = lie_torn v.base.ip v.reads.ip count end v.room.ip d.ip st.ip same ends st.in_ip;
          in_dp = st.in_dp;
          agree = st.agree;
          vcr = st.vcr;
          note_ip = st.note_ip;
          note_dp = st.note_dp;
          fits_ip = st.fits_ip;
          fits_dp = st.fits_dp;
        }
    torn_reads Dp count end same ends d is =
        let st = st0 d is in
        record {
          ip = st.ip;
          dp = st.dp;
          in_ip = st.in_ip;
          in_dp = lie_torn v.base.dp v.reads.dp count end v.room.dp d.dp st.dp same ends st.in_dp;
          agree = st.agree;
          vcr = st.vcr;
          note_ip = st.note_ip;
          note_dp = st.note_dp;
          fits_ip = st.fits_ip;
          fits_dp = st.fits_dp;
        }

    pub torn_holds : (part : Part) (count end : ℕ) → count ≡ (half_of part v.reads).count → (half_of part v.reads).count < capacity part v.room.limits
        → Holds v.room (with_half part (ended count end true (half_of part v.reads)) v.reads)
    torn_holds Ip count end same room =
        let h = kept.holds in record { ip = h.ip ∙ sym same; dp = h.dp; fits_ip = omega (arith, same, room); fits_dp = h.fits_dp }
    torn_holds Dp count end same room =
        let h = kept.holds in record { ip = h.ip; dp = h.dp ∙ sym same; fits_ip = h.fits_ip; fits_dp = omega (arith, same, room) }

    more_items : (part : Part) (count end : ℕ) (x : Item) (sound : IsItem x) (more : count ≡ (half_of part v.reads).count + 1)
        (ends : (d : Files) → disk.held v.slots.disk ≡ Some d → end ≡ (half_of part v.reads).end + width x)
        (stand : (d : Files) → disk.held v.slots.disk ≡ Some d → StandBehind (half_of part v.reads).end (record_bytes x) (bytes_of (file_of part) d))
        (d : Files) (is : disk.held v.slots.disk ≡ Some d)
        → HasItems part (records_of part (st0 d is) ++ x ∷ []) (whole (st0 d is)) (whole (more_reads part count end x sound more ends stand d is))
    unfolding more_reads
    more_items Ip count end x sound more ends stand d is =
        record { are = append-nil ((st0 d is).ip ++ x ∷ []); vcr = refl; rest = record { other_part = refl; note_ip = refl; note_dp = refl } }
    more_items Dp count end x sound more ends stand d is =
        record { are = append-nil ((st0 d is).dp ++ x ∷ []); vcr = refl; rest = record { other_part = refl; note_ip = refl; note_dp = refl } }

    torn_items : (part : Part) (count end : ℕ) (same : count ≡ (half_of part v.reads).count) (ends : end ≡ (half_of part v.reads).end) (d : Files) (is : disk.held v.slots.disk ≡ Some d)
        → HasItems part (records_of part (st0 d is) ++ item.Torn ∷ []) (whole (st0 d is)) (whole (torn_reads part count end same ends d is))
    unfolding torn_reads
    torn_items Ip count end same ends d is = record { are = refl; vcr = refl; rest = record { other_part = refl; note_ip = refl; note_dp = refl } }
    torn_items Dp count end same ends d is = record { are = refl; vcr = refl; rest = record { other_part = refl; note_ip = refl; note_dp = refl } }

    -- what a cut leaves
    pub cuts : (at : Place) (end : ℕ) (room : Offsets) (reads : SlotValue) (least : (d : Files) → disk.held v.slots.disk ≡ Some d → (half_of at.part v.base).count ≤ at.pos)
        → IsPlace at end v → room ≡ with_offsets at.part (take at.pos (offsets_of at.part v.room)) v.room → reads ≡ cut_value at.part at.pos end v.reads
        → IsKept disk (shaped reads room v) × Cuts disk at v (shaped reads room v)
    cuts at end room reads least place er es =
        let may = short_reads at.part at.pos end least place.most place.is in
        let room' = with_offsets at.part (take at.pos (offsets_of at.part v.room)) v.room in
        let reads' = cut_value at.part at.pos end v.reads in
        let limits_same : room'.limits ≡ v.room.limits = same_limits at.part _ v.room in
        let kept' = kept_shaped v reads' room' kept settled (short_holds at.part at.pos end place.most) limits_same may in
        let done : Cuts disk at v (shaped reads' room' v) = record {
          stays = record { limits = limits_same; faults = refl; opened = refl };
          disk_is = refl;
          base = refl;
          vcr = half_number at.part (ended at.pos end false (half_of at.part v.reads)) v.reads;
          doubt = refl;
          untold = λ none. untold_held disk (shaped reads' room' v) (none_held disk v kept settled none);
          told = λ c held.
              let t = held_is_whole disk v kept settled c held in
              let e = whole (may t.0 t.1) in (
                e,
                held_shaped v reads' room' settled t.0 t.1 may,
                subst (λ (y : Cartridge). HasItems at.part (take at.pos (items_of at.part y)) y e) (sym t.2)
                    (short_items at.part at.pos end least place.most place.is t.0 t.1),
              );
        } in (
          subst (λ (o : Offsets). IsKept disk (shaped reads o v)) (sym er) (subst (λ (x : SlotValue). IsKept disk (shaped x room' v)) (sym es) kept'),
          subst (λ (o : Offsets). Cuts disk at v (shaped reads o v)) (sym er) (subst (λ (x : SlotValue). Cuts disk at v (shaped x room' v)) (sym es) done),
        )

    -- nothing to cut
    pub cuts_not : (at : Place) → (half_of at.part v.reads).count < at.pos → Cuts disk at v v
    cuts_not at past = record {
      stays = record { limits = refl; faults = refl; opened = refl };
      disk_is = refl;
      base = refl;
      vcr = refl;
      doubt = refl;
      untold = λ none. none;
      told = λ c held.
          let t = held_is_whole disk v kept settled c held in
          let st = st0 t.0 t.1 in (
            c,
            held,
            record {
              are = sym (take_all at.pos (items_of at.part c)
                  (omega (
                    arith,
                    ap length (ap (λ (y : Cartridge). items_of at.part y) t.2 ∙ items_are at.part st),
                    length-append (records_of at.part st) (tail_of (half_of at.part v.reads).torn),
                    records_count at.part st,
                    tail_size (half_of at.part v.reads).torn,
                    past,
                  )));
              vcr = refl;
              rest = record { other_part = refl; note_ip = refl; note_dp = refl };
            },
          );
    }

half_set : (part : Part) (h : Half) (s : SlotValue) → half_of part (with_half part h s) ≡ h
half_set Ip h s = refl
half_set Dp h s = refl

module _ {D : Type 0} (disk : Ghosts D) (part : Part) (a v w : View D) (is : v ≡ w) (kept : IsKept disk v) (settled_a : a.doubt ≡ Settled) (hides_w : Hides disk 2 a w)
    (alike_w : IsAlike a w) (count end : ℕ) (room : Offsets) (reads : SlotValue) (x : Item) where
  alike : IsAlike a v
  alike = subst (λ (y : View D). IsAlike a y) (sym is) alike_w

  hides : Hides disk 2 a v
  hides = subst (λ (y : View D). Hides disk 2 a y) (sym is) hides_w

  settled : v.doubt ≡ Settled
  settled = alike.doubt ∙ settled_a

  halves : half_of part v.reads ≡ half_of part a.reads
  halves = ap (λ (s : SlotValue). half_of part s) alike.reads

  puts_by : {T : Type 0} (r : Result T DriveErr) (reads' : SlotValue) (room' : Offsets) (may : MayRead disk reads' room' v) → room'.limits ≡ v.room.limits
      → reads'.vcr ≡ v.reads.vcr
      → ((d : Files) (held : disk.held v.slots.disk ≡ Some d)
      → HasItems part (put_items r x (records_of part (st0 disk v kept settled d held))) (whole (st0 disk v kept settled d held)) (whole (may d held)))
      → OnOk r ((half_of part reads').torn ≡ false) → OnOk r ((half_of part reads').count ≡ (half_of part a.reads).count + 1)
      → Puts disk part x r a (shaped disk reads' room' v)
  puts_by r reads' room' may same number has torn more = record {
    stays = record { limits = same ∙ hides.stays.limits; faults = hides.stays.faults; opened = hides.stays.opened };
    count = hides.count;
    settled = settled;
    untold = λ none. untold_held disk (shaped disk reads' room' v) (none_held disk v kept settled (hides.held ∙ none));
    told = λ c held.
        let t = held_is_whole disk v kept settled c (hides.held ∙ held) in
        let st = st0 disk v kept settled t.0 t.1 in
        let e = whole (may t.0 t.1) in (
          records_of part st,
          e,
          ap (λ (y : Cartridge). items_of part y) t.2 ∙ items_are part st ∙ ap (λ (h : Half). records_of part st ++ tail_of h.torn) halves,
          held_shaped disk v reads' room' settled t.0 t.1 may,
          subst (λ (y : Cartridge). HasItems part (put_items r x (records_of part st)) y e) (sym t.2) (has t.0 t.1),
        );
    crash = λ c held. subst (λ (n : ℕ). CrashesAt disk a.room.limits NothingNew a.reads.vcr a.slots.disk n v.slots.disk) (sym number) (hides.crash c held);
    whole = torn;
    one_more = more;
  }

  -- the bytes of an item's record stand behind the records that read
  pub stand_at : (bytes : List ℕ) → ((e : Files) → disk.held w.slots.disk ≡ Some e → StandBehind (half_of part a.reads).end bytes (bytes_of (file_of part) e))
      → bytes ≡ record_bytes x → (d : Files) → disk.held v.slots.disk ≡ Some d → StandBehind (half_of part v.reads).end (record_bytes x) (bytes_of (file_of part) d)
  stand_at bytes behind same d held =
      subst (λ (k : ℕ). StandBehind k (record_bytes x) (bytes_of (file_of part) d)) (sym (ap (λ (h : Half). h.end) halves))
      (subst (λ (l : List ℕ). StandBehind (half_of part a.reads).end l (bytes_of (file_of part) d)) same
      (behind d (ap (λ (y : View D). disk.held y.slots.disk) (sym is) ∙ held)))

  -- the partition ends behind one record more
  pub end_at : (h : Head) (bytes : List ℕ) (from more : ℕ) → record_bytes x ≡ head_bytes h ++ bytes → length bytes ≤ 1048576 → from ≡ (half_of part v.reads).end
      → more ≡ min (from + (5 + length bytes)) (2 ^ 64 - 1) → (d : Files) → disk.held v.slots.disk ≡ Some d → more ≡ (half_of part v.reads).end + width x
  end_at h bytes from more same size at sum d held =
      let long : width x ≡ 5 + length bytes = omega (arith, ap length same, length-append (head_bytes h) bytes, head_size h) in
      omega (arith, at, sum, long, size, end_small part (st0 disk v kept settled d held) (small_of disk v kept part))

  -- the partition counts one record more
  pub count_at : (old more : ℕ) → old ≡ (half_of part v.reads).count → more ≡ min (old + 1) (2 ^ 64 - 1) → more ≡ (half_of part v.reads).count + 1
  count_at old more same sum = omega (arith, same, sum, small_of disk v kept part)

  -- with one more
  pub puts_more : IsItem x → (half_of part a.reads).count < capacity part a.room.limits → count ≡ (half_of part v.reads).count + 1
      → ((d : Files) → disk.held v.slots.disk ≡ Some d → end ≡ (half_of part v.reads).end + width x)
      → ((d : Files) → disk.held v.slots.disk ≡ Some d → StandBehind (half_of part v.reads).end (record_bytes x) (bytes_of (file_of part) d))
      → room ≡ with_offsets part (offsets_of part v.room ++ (half_of part v.reads).end ∷ []) v.room → reads ≡ with_half part (ended count end false (half_of part v.reads)) v.reads
      → IsKept disk (shaped disk reads room v) × Puts {T = Unit {0}} {E = DriveErr} disk part x (Ok tt) a (shaped disk reads room v)
  puts_more sound space more ends stand er es =
      let reads' = with_half part (ended count end false (half_of part v.reads)) v.reads in
      let room' = with_offsets part (offsets_of part v.room ++ (half_of part v.reads).end ∷ []) v.room in
      let may = more_reads disk v kept settled part count end x sound more ends stand in
      let space_v : (half_of part v.reads).count < capacity part v.room.limits =
      omega (arith, space, ap (λ (h : Half). h.count) halves, ap (λ (l : Limits). capacity part l) hides.stays.limits) in
      let same = same_limits part (offsets_of part v.room ++ (half_of part v.reads).end ∷ []) v.room in
      let kept' = kept_shaped disk v reads' room' kept settled (more_holds disk v kept settled part count end more space_v) same may in
      let set = half_set part (ended count end false (half_of part v.reads)) v.reads in
      let done = puts_by {T = Unit {0}} (Ok tt) reads' room' may same (half_number part (ended count end false (half_of part v.reads)) v.reads) (more_items disk v kept settled part count end x sound more ends stand)
      (ap (λ (h : Half). h.torn) set) (ap (λ (h : Half). h.count) set ∙ more ∙ ap (λ (h : Half). h.count + 1) halves) in (
        subst (λ (o : Offsets). IsKept disk (shaped disk reads o v)) (sym er) (subst (λ (s : SlotValue). IsKept disk (shaped disk s room' v)) (sym es) kept'),
        subst (λ (o : Offsets). Puts {T = Unit {0}} {E = DriveErr} disk part x (Ok tt) a (shaped disk reads o v)) (sym er)
            (subst (λ (s : SlotValue). Puts {T = Unit {0}} {E = DriveErr} disk part x (Ok tt) a (shaped disk s room' v)) (sym es) done),
      )

  -- with a Torn
  pub puts_torn : (why : DriveErr) → (half_of part a.reads).count < capacity part a.room.limits → count ≡ (half_of part v.reads).count → end ≡ (half_of part v.reads).end
      → reads ≡ with_half part (ended count end true (half_of part v.reads)) v.reads
      → IsKept disk (shaped disk reads v.room v) × Puts {T = Unit {0}} {E = DriveErr} disk part x (Err why) a (shaped disk reads v.room v)
  puts_torn why space same ends es =
      let reads' = with_half part (ended count end true (half_of part v.reads)) v.reads in
      let may = torn_reads disk v kept settled part count end same ends in
      let space_v : (half_of part v.reads).count < capacity part v.room.limits =
      omega (arith, space, ap (λ (h : Half). h.count) halves, ap (λ (l : Limits). capacity part l) hides.stays.limits) in
      let kept' = kept_shaped disk v reads' v.room kept settled (torn_holds disk v kept settled part count end same space_v) refl may in
      let done = puts_by {T = Unit {0}} (Err why) reads' v.room may refl (half_number part (ended count end true (half_of part v.reads)) v.reads) (torn_items disk v kept settled part count end same ends) tt tt in (
        subst (λ (s : SlotValue). IsKept disk (shaped disk s v.room v)) (sym es) kept',
        subst (λ (s : SlotValue). Puts {T = Unit {0}} {E = DriveErr} disk part x (Err why) a (shaped disk s v.room v)) (sym es) done,
      )

-- a cut of a tape is one of its equal
pub renamed_cut : {D : Type 0} (disk : Ghosts D) (at : Place) (v w n : View D) → v ≡ w → Cuts disk at v n → Cuts disk at w n
renamed_cut {D = D} disk at v w n is h = subst (λ (x : View D). Cuts disk at x n) is h
