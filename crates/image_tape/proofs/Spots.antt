-- What is read of a record, and at a place.
use Rattle.std.proofs.Common.{◌≡◌, ℕ, ◌+◌, ◌-◌, ◌^◌, ◌<◌, ◌≤◌, min, Bool, List, [], ◌++◌, length, get_or, Option, Some, None, Result, Ok, Err, IfOk, IfSome, sym, ap, ◌∙◌, subst, arith}
use Rattle.std.specs.Prelude.{slice_get}
use Rattle.std.proofs.lemmas.Option.{same_Some}
use Rattle.tape_types.specs.Bounds.{most_positions}
use Rattle.tape_types.specs.Cartridges.{capacity}
use Rattle.tape_types.specs.declared.cartridges.Cartridge.{Cartridge}
use Rattle.tape_types.specs.declared.cartridges.Item.{Item}
use Rattle.tape_types.specs.declared.cartridges.Item.TheVariants as item
use Rattle.tape_types.specs.declared.cartridges.Part.{Part}
use Rattle.tape_types.specs.declared.cartridges.Part.TheVariants.{Ip, Dp}
use Rattle.tape_types.specs.declared.cartridges.Place.{Place}
use Rattle.tape_drive.specs.Commands.{FillsBuffer, IsRead}
use Rattle.tape_drive.specs.declared.drive.DriveErr.{DriveErr}
use Rattle.tape_drive.specs.declared.drive.Got.{Got}
use Rattle.tape_drive.specs.declared.drive.Got.TheVariants as got
use Rattle.byte_disk.specs.Files.{Files, bytes_at, bytes_of}
use Rattle.byte_disk.specs.declared.disk.ByteDisk.{Ghosts}
use Rattle.image_slots.specs.State.{file_of}
use Rattle.image_slots.proofs.Chains.{where_told, held_has}
use Rattle.image_format.specs.declared.heads.Head.{Head}
use Rattle.image_format.specs.declared.heads.Head.TheVariants as head
use Rattle.image_format.specs.declared.values.Half.{Half}
use Rattle.image_format.specs.Images.{tail_of}
use Rattle.image_format.specs.Offsets.{offsets_of}
use Rattle.image_format.specs.Records.{head_of, width}
use Rattle.image_format.specs.Values.{flag}
use Rattle.image_format.proofs.HeadLemmas.{head_for}
use Rattle.image_tape.specs.declared.doubt.Doubt.{Doubt}
use Rattle.image_tape.specs.declared.doubt.Doubt.TheVariants.{Settled, Open}
use Rattle.image_tape.specs.Halves.{half_of}
use Rattle.image_tape.specs.Steps.{HasRecord, IsReading}
use Rattle.image_tape.specs.Tape.{Holds, IsKept, Stands, Tells, View, held_of}
use Rattle.image_tape.proofs.Opened.{whole}
use Rattle.image_tape.proofs.RecordLemmas.{InPart, at_record, block_read, block_within, head_read, in_part, mark_read, record_at, torn_read}
use Rattle.image_tape.proofs.Telling.{held_is_whole, tells_of}

at_least : (x : Item) → 5 ≤ width x
at_least (item.Block bytes) = omega arith
at_least item.Mark = omega arith
at_least item.Torn = omega arith

same_head : (a b : Head) (o : Option Head) → o ≡ Some a → o ≡ Some b → a ≡ b
same_head a b o is also = same_Some a b (sym is ∙ also)

-- what is answered and read of the record that begins there
abbrev pub ReadsRecord : Part → ℕ → Option Files → Got → List ℕ → Type 0
ReadsRecord part from held found buf = (d : Files) (x : Item) → held ≡ Some d → HasRecord from x (bytes_of (file_of part) d) → IsRead (Some x) found buf

module _ (part : Part) (from : ℕ) (held : Option Files) (bytes : List ℕ) (fetched : (d : Files) → held ≡ Some d → bytes ≡ bytes_at from 5 (bytes_of (file_of part) d)) where
  head_is : (h : Head) → head_of bytes ≡ Some h → (d : Files) (x : Item) → held ≡ Some d → HasRecord from x (bytes_of (file_of part) d) → head_for x ≡ h
  head_is h is d x told has = same_head (head_for x) h (head_of bytes) (head_read from x (bytes_of (file_of part) d) bytes has (fetched d told)) is

  -- a head of a mark is answered as a mark
  pub mark_item : head_of bytes ≡ Some head.Mark → ReadsRecord part from held got.Mark []
  mark_item is d x told has = mark_read x (head_is head.Mark is d x told has)

  -- a head of a Torn is answered as a Torn
  pub torn_item : head_of bytes ≡ Some head.Torn → ReadsRecord part from held got.Torn []
  torn_item is d x told has = torn_read x (head_is head.Torn is d x told has)

  -- bytes that are no head are answered as a Torn
  pub none_item : head_of bytes ≡ None → ReadsRecord part from held got.Torn []
  none_item is d x told has =
      let bad : None ≡ Some (head_for x) = sym is ∙ head_read from x (bytes_of (file_of part) d) bytes has (fetched d told) in
      absurd (cc bad)

  place_is : (place : ℕ) (x : Item) (file : List ℕ) → HasRecord from x file → place ≡ min (from + 5) (2 ^ 64 - 1) → place ≡ from + 5
  place_is place x file has is = omega (arith, has.range, is, at_least x)

  -- a head of a block is answered as a block, with its bytes
  pub block_item : (size place : ℕ) (r : Result Got DriveErr) (buf : List ℕ) → head_of bytes ≡ Some (head.Block size) → place ≡ min (from + 5) (2 ^ 64 - 1)
      → IfOk r (λ found. (d : Files) → held ≡ Some d → buf ≡ bytes_at place size (bytes_of (file_of part) d))
      → IfOk r (λ found. found ≡ got.Block) → IfOk r (λ found. ReadsRecord part from held found buf)
  block_item size place (Ok found) buf is at value block = λ d x told has.
      subst (λ (f : Got). IsRead (Some x) f buf) (sym block)
      (block_read from size place x (bytes_of (file_of part) d) buf has (head_is (head.Block size) is d x told has)
      (place_is place x (bytes_of (file_of part) d) has at) (value d told))
  block_item size place (Err why) buf is at value block = tt

  -- the bytes of a block lie within its file
  pub block_inside : (size place : ℕ) → head_of bytes ≡ Some (head.Block size) → place ≡ min (from + 5) (2 ^ 64 - 1)
      → IfSome held (λ d. (x : Item) × HasRecord from x (bytes_of (file_of part) d)) → IfSome held (λ d. place + size ≤ length (bytes_of (file_of part) d))
  block_inside size place is at stands = where_told held (λ d. place + size ≤ length (bytes_of (file_of part) d))
      (λ d told.
      let has = held_has held (λ (d' : Files). (x : Item) × HasRecord from x (bytes_of (file_of part) d')) stands d told in
      block_within from size place has.0 (bytes_of (file_of part) d) has.1 (head_is (head.Block size) is d has.0 told has.1)
      (place_is place has.0 (bytes_of (file_of part) d) has.1 at))

stands_in : {D : Type 0} (doubt : Doubt) (v : View D) (leaves : Files → Type 0) (d : Files) → Tells doubt v leaves d
    → Stands v.room.limits v.base v.reads v.room leaves d
stands_in Settled v leaves d h = h.0
stands_in (Open value reads) v leaves d h = h.0

fits_of : (part : Part) {D : Type 0} (v : View D) → Holds v.room v.reads
    → (half_of part v.reads).count + flag (half_of part v.reads).torn ≤ capacity part v.room.limits
fits_of Ip v holds = holds.fits_ip
fits_of Dp v holds = holds.fits_dp

cap_of : (part : Part) {D : Type 0} (disk : Ghosts D) (v : View D) → IsKept disk v → capacity part v.room.limits ≤ most_positions
cap_of Ip disk v kept = kept.limits.ip_most
cap_of Dp disk v kept = kept.limits.dp_most

module _ {D : Type 0} (disk : Ghosts D) (v : View D) (kept : IsKept disk v) where
  -- a partition has no more records than there may be
  pub small_of : (part : Part) → (half_of part v.reads).count ≤ most_positions
  small_of part = omega (arith, fits_of part v kept.holds, cap_of part disk v kept)

  stands_of : (d : Files) → disk.held v.slots.disk ≡ Some d → Stands v.room.limits v.base v.reads v.room (disk.leaves v.slots.disk) d
  stands_of d is = stands_in v.doubt v (disk.leaves v.slots.disk) d (kept.tells d is)

  part_of : (part : Part) (d : Files) (is : disk.held v.slots.disk ≡ Some d) → InPart part v.reads v.room d (whole (stands_of d is))
  part_of part d is = in_part part (stands_of d is)

  -- a record begins at the offset of its position
  pub record_stands : (part : Part) (pos from : ℕ) → pos < (half_of part v.reads).count → from ≡ get_or (offsets_of part v.room) pos 0
      → IfSome (disk.held v.slots.disk) (λ d. (x : Item) × HasRecord from x (bytes_of (file_of part) d))
  record_stands part pos from lt at = where_told (disk.held v.slots.disk) (λ d. (x : Item) × HasRecord from x (bytes_of (file_of part) d))
      (λ d is.
      let p = part_of part d is in (
        get_or p.items pos item.Torn,
        subst (λ (k : ℕ). HasRecord k (get_or p.items pos item.Torn) (bytes_of (file_of part) d)) (sym at)
            (record_at (half_of part v.reads) (offsets_of part v.room) (bytes_of (file_of part) d) p.items pos p.records p.offsets (small_of part) lt),
      ))

  held_part : (settled : v.doubt ≡ Settled) (part : Part) (c : Cartridge) → held_of disk v ≡ Some c
      → (d : Files) × (disk.held v.slots.disk ≡ Some d) × InPart part v.reads v.room d c
  held_part settled part c is =
      let t = held_is_whole disk v kept settled c is in
      (t.0, t.1, subst (λ (x : Cartridge). InPart part v.reads v.room t.0 x) (sym t.2) (in_part part (tells_of disk v kept settled t.0 t.1).0))

  -- what is read of a record is what stands at its position
  pub reading_record : (at : Place) (from : ℕ) (found : Got) (buf : List ℕ) → at.pos < (half_of at.part v.reads).count → from ≡ get_or (offsets_of at.part v.room) at.pos 0
      → ReadsRecord at.part from (disk.held v.slots.disk) found buf → FillsBuffer found buf → IsReading disk at found buf v
  reading_record at from found buf lt is reads fills = record {
    item = λ settled c held.
        let t = held_part settled at.part c held in
        let p = t.2 in
        let x = get_or p.items at.pos item.Torn in
        subst (λ (o : Option Item). IsRead o found buf)
        (sym (ap (λ (l : List Item). slice_get l at.pos) p.is ∙ at_record (half_of at.part v.reads) p.items at.pos p.records.count lt))
        (reads t.0 x t.1 (subst (λ (k : ℕ). HasRecord k x (bytes_of (file_of at.part) t.0)) (sym is)
        (record_at (half_of at.part v.reads) (offsets_of at.part v.room) (bytes_of (file_of at.part) t.0) p.items at.pos p.records p.offsets (small_of at.part) lt)));
    bytes = fills;
    at_capacity = λ le. absurd (omega (arith, le, lt, fits_of at.part v kept.holds));
  }

  -- what is read behind the records is a Torn or the end
  pub reading_behind : (at : Place) (half : Half) (found : Got) (buf : List ℕ) → half ≡ half_of at.part v.reads
      → ((items : List Item) → length items ≡ half.count → IsRead (slice_get (items ++ tail_of half.torn) at.pos) found [])
      → (half.count + flag half.torn ≤ at.pos → found ≡ got.End) → FillsBuffer found [] → buf ≡ [] → IsReading disk at found buf v
  reading_behind at half found buf same reads end fills empty = subst (λ (l : List ℕ). IsReading disk at found l v) (sym empty) (record {
    item = λ settled c held.
        let t = held_part settled at.part c held in
        let p = t.2 in
        let torn : half.torn ≡ (half_of at.part v.reads).torn = ap (λ (h : Half). h.torn) same in
        let count : length p.items ≡ half.count = p.records.count ∙ sym (ap (λ (h : Half). h.count) same) in
        subst (λ (l : List Item). IsRead (slice_get l at.pos) found []) (ap (λ (b : Bool). p.items ++ tail_of b) torn ∙ sym p.is) (reads p.items count);
    bytes = fills;
    at_capacity = λ le. end
        (omega (arith, le, fits_of at.part v kept.holds, ap (λ (h : Half). h.count + flag h.torn) same));
  })

-- a head that was found
abbrev pub some_head : Head → Option Head
some_head h = Some h

-- a position below the capacity is small
pub room_small : {D : Type 0} (disk : Ghosts D) (at : Place) (v w : View D) → v ≡ w → IsKept disk v → at.pos < capacity at.part w.room.limits → at.pos < most_positions
room_small {D = D} disk at v w is kept room = omega (arith, room, cap_of at.part disk v kept, ap (λ (x : View D). capacity at.part x.room.limits) is)
