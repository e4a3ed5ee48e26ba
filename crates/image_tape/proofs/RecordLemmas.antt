-- A record is found where it begins, and what stands at a place.
use Rattle.std.proofs.Common.{◌≡◌, ℕ, ◌+◌, ◌*◌, ◌<◌, ◌≤◌, Bool, true, false, List, [], ◌∷◌, ◌++◌, take, drop, length, get_or, Some, None, refl, sym, ap, ◌∙◌, subst, arith}
use Rattle.std.specs.Prelude.{slice_get}
use Rattle.std.specs.List.{All, flat_map}
use Rattle.std.proofs.lemmas.List.{drop_at, drop-drop, drop-take, drop_more, get_or_append_left, get_or_at, length-append, take-take, take_at}
use Rattle.std.proofs.lemmas.List.Elements.{All-head, All-tail, All-drop}
use Rattle.std.proofs.lemmas.Option.{slice_get-get_or, slice_get_past}
use Rattle.tape_types.specs.Bounds.{most_positions}
use Rattle.tape_types.specs.Cartridges.{IsItem, items_of}
use Rattle.tape_types.specs.declared.cartridges.Cartridge.{Cartridge}
use Rattle.tape_types.specs.declared.cartridges.Item.{Item}
use Rattle.tape_types.specs.declared.cartridges.Item.TheVariants as item
use Rattle.tape_types.specs.declared.cartridges.Limits.{Limits}
use Rattle.tape_types.specs.declared.cartridges.Part.{Part}
use Rattle.tape_types.specs.declared.cartridges.Part.TheVariants.{Ip, Dp}
use Rattle.tape_drive.specs.Commands.{IsRead}
use Rattle.tape_drive.specs.declared.drive.Got.TheVariants as got
use Rattle.byte_disk.specs.Files.{Files, bytes_at, bytes_of}
use Rattle.image_slots.specs.State.{file_of}
use Rattle.image_format.specs.declared.heads.Head.TheVariants as head
use Rattle.image_format.specs.declared.values.Half.{Half}
use Rattle.image_format.specs.declared.values.SlotValue.{SlotValue}
use Rattle.image_format.specs.Images.{tail_of}
use Rattle.image_format.specs.Offsets.{Offsets, offsets_from, offsets_of}
use Rattle.image_format.specs.Records.{AreRecords, IsHead, head_bytes, head_of, record_bytes, width}
use Rattle.image_format.specs.Values.{flag}
use Rattle.image_format.proofs.HeadLemmas.{head_for, head_found}
use Rattle.image_format.proofs.Pieces.{inside}
use Rattle.image_tape.specs.Halves.{half_of}
use Rattle.image_tape.specs.Steps.{HasRecord}
use Rattle.image_tape.specs.Tape.{Stands}
use Rattle.image_tape.proofs.Fronts.{all_bytes, front_bytes, offset_is}
use Rattle.image_tape.proofs.Opened.{whole}

item_size : (x : Item) → IsItem x → width x ≤ 1048581
item_size (item.Block bytes) is = omega (arith, is.1)
item_size item.Mark is = omega arith
item_size item.Torn is = omega arith

-- records have no more bytes than so many blocks of the longest size
pub records_size : (items : List Item) → All IsItem items → length (flat_map record_bytes items) ≤ length items * 1048581
records_size [] each = omega arith
records_size (x ∷ xs) each =
    omega (arith, item_size x (All-head IsItem x xs each), records_size xs (All-tail IsItem x xs each), length-append (record_bytes x) (flat_map record_bytes xs))

-- so they end below 2^62
pub end_size : (h : Half) (file : List ℕ) (items : List Item) → AreRecords h file items → h.count ≤ most_positions → h.end ≤ most_positions * 1048581
end_size h file items are most = omega (arith, all_bytes h file items are, records_size items are.each, are.count, most)

has_record : (h : Half) (file : List ℕ) (items : List Item) (n : ℕ) → AreRecords h file items → h.count ≤ most_positions → n < length items
    → HasRecord (length (flat_map record_bytes (take n items))) (get_or items n item.Torn) file
has_record h file items n are most lt =
    let x = get_or items n item.Torn in
    let before = flat_map record_bytes (take n items) in
    let rest : drop n items ≡ x ∷ drop (n + 1) items = drop_more items n item.Torn lt in
    let split : take h.end file ≡ before ++ (record_bytes x ++ flat_map record_bytes (drop (n + 1) items)) =
    are.bytes ∙ front_bytes n items ∙ ap (λ (l : List Item). before ++ flat_map record_bytes l) rest in
    let size : length before + width x ≤ h.end =
    omega (
      arith,
      all_bytes h file items are,
      ap length (front_bytes n items ∙ ap (λ (l : List Item). before ++ flat_map record_bytes l) rest),
      length-append before (record_bytes x ++ flat_map record_bytes (drop (n + 1) items)),
      length-append (record_bytes x) (flat_map record_bytes (drop (n + 1) items)),
    ) in
    record {
      sound = All-head IsItem x (drop (n + 1) items) (subst (λ (l : List Item). All IsItem l) rest (All-drop IsItem n items are.each));
      within = omega (arith, size, are.end);
      range = omega (arith, size, end_size h file items are most);
      bytes =
          sym (inside (length before) (width x) h.end file size)
          ∙ ap (λ (l : List ℕ). take (width x) (drop (length before) l)) split
          ∙ ap (λ (l : List ℕ). take (width x) l) (drop_at before (record_bytes x ++ flat_map record_bytes (drop (n + 1) items)) (length before) refl)
          ∙ take_at (record_bytes x) (flat_map record_bytes (drop (n + 1) items)) (width x) refl;
    }

-- the record of a position begins at its offset
pub record_at : (h : Half) (offsets file : List ℕ) (items : List Item) (n : ℕ) → AreRecords h file items → offsets ≡ offsets_from 0 items → h.count ≤ most_positions
    → n < h.count → HasRecord (get_or offsets n 0) (get_or items n item.Torn) file
record_at h offsets file items n are is most lt =
    let inside_all : n < length items = omega (arith, lt, are.count) in
    let from : get_or offsets n 0 ≡ length (flat_map record_bytes (take n items)) =
    ap (λ (l : List ℕ). get_or l n 0) is ∙ offset_is 0 n items 0 inside_all ∙ omega arith in
    subst (λ (k : ℕ). HasRecord k (get_or items n item.Torn) file) (sym from) (has_record h file items n are most inside_all)

front_of : (x : Item) → take 5 (record_bytes x) ≡ head_bytes (head_for x)
front_of (item.Block bytes) = refl
front_of item.Mark = refl
front_of item.Torn = refl

at_least_head : (x : Item) → 5 ≤ width x
at_least_head (item.Block bytes) = omega arith
at_least_head item.Mark = omega arith
at_least_head item.Torn = omega arith

is_head : (x : Item) → IsItem x → IsHead (head_for x)
is_head (item.Block bytes) is = is
is_head item.Mark is = tt
is_head item.Torn is = tt

-- what the first five bytes of a record say
pub head_read : (from : ℕ) (x : Item) (file bytes : List ℕ) → HasRecord from x file → bytes ≡ bytes_at from 5 file → head_of bytes ≡ Some (head_for x)
head_read from x file bytes has is =
    ap head_of (is ∙ sym (take-take 5 (width x) (drop from file) (at_least_head x)) ∙ ap (λ (l : List ℕ). take 5 l) has.bytes ∙ front_of x)
    ∙ head_found (head_for x) (is_head x has.sound)

-- what is read of a record with this head
pub block_read : (from size place : ℕ) (x : Item) (file bytes : List ℕ) → HasRecord from x file → head_for x ≡ head.Block size → place ≡ from + 5
    → bytes ≡ bytes_at place size file → IsRead (Some x) got.Block bytes
block_read from size place (item.Block block) file bytes has is at read =
    let long : length block ≡ size = cc is in
    let whole_width : width (item.Block block) ≡ 5 + size = omega (arith, long) in (
      refl,
      read ∙ ap (λ (k : ℕ). take size (drop k file)) at
          ∙ ap (λ (l : List ℕ). take size l) (sym (drop-drop 5 from file))
          ∙ sym (drop-take 5 size (drop from file))
          ∙ ap (λ (k : ℕ). drop 5 (take k (drop from file))) (sym whole_width)
          ∙ ap (λ (l : List ℕ). drop 5 l) has.bytes,
    )
block_read from size place item.Mark file bytes has is at read = absurd (cc is)
block_read from size place item.Torn file bytes has is at read = absurd (cc is)

-- at a head of a mark a mark is read
pub mark_read : (x : Item) → head_for x ≡ head.Mark → IsRead (Some x) got.Mark []
mark_read (item.Block block) is = absurd (cc is)
mark_read item.Mark is = (refl, refl)
mark_read item.Torn is = absurd (cc is)

-- at a head of a Torn a Torn is read
pub torn_read : (x : Item) → head_for x ≡ head.Torn → IsRead (Some x) got.Torn []
torn_read (item.Block block) is = absurd (cc is)
torn_read item.Mark is = absurd (cc is)
torn_read item.Torn is = (refl, refl)

-- the bytes behind a head lie in the file
pub block_within : (from size place : ℕ) (x : Item) (file : List ℕ) → HasRecord from x file → head_for x ≡ head.Block size → place ≡ from + 5
    → place + size ≤ length file
block_within from size place (item.Block block) file has is at =
    let long : length block ≡ size = cc is in
    omega (arith, has.within, long, at)
block_within from size place item.Mark file has is at = absurd (cc is)
block_within from size place item.Torn file has is at = absurd (cc is)

-- what stands at a position
pub at_record : (h : Half) (items : List Item) (n : ℕ) → length items ≡ h.count → n < h.count
    → slice_get (items ++ tail_of h.torn) n ≡ Some (get_or items n item.Torn)
at_record h items n count lt =
    slice_get-get_or (items ++ tail_of h.torn) n item.Torn (omega (arith, length-append items (tail_of h.torn), count, lt))
    ∙ ap (λ (x : Item). Some x) (get_or_append_left items (tail_of h.torn) item.Torn n (omega (arith, count, lt)))

at_torn : (h : Half) (items : List Item) (n : ℕ) → length items ≡ h.count → n ≡ h.count → h.torn ≡ true
    → slice_get (items ++ tail_of h.torn) n ≡ Some item.Torn
at_torn h items n count is torn =
    ap (λ (t : Bool). slice_get (items ++ tail_of t) n) torn
    ∙ slice_get-get_or (items ++ item.Torn ∷ []) n item.Torn (omega (arith, length-append items (item.Torn ∷ []), count, is))
    ∙ ap (λ (x : Item). Some x) (get_or_at items item.Torn [] item.Torn n (omega (arith, count, is)))

tail_size : (t : Bool) → length (tail_of t) ≡ flag t
tail_size true = refl
tail_size false = refl

at_end : (h : Half) (items : List Item) (n : ℕ) → length items ≡ h.count → h.count + flag h.torn ≤ n → slice_get (items ++ tail_of h.torn) n ≡ None
at_end h items n count le =
    slice_get_past (items ++ tail_of h.torn) n (omega (arith, length-append items (tail_of h.torn), count, le, tail_size h.torn))

-- a partition of what stands
pub record InPart (part : Part) (reads : SlotValue) (room : Offsets) (d : Files) (c : Cartridge) : Type 0 where
  pub items : List Item
  pub records : AreRecords (half_of part reads) (bytes_of (file_of part) d) items
  pub offsets : offsets_of part room ≡ offsets_from 0 items
  pub is : items_of part c ≡ items ++ tail_of (half_of part reads).torn

-- what lies in a partition of the whole cartridge is what its value says
pub in_part : (part : Part) {limits : Limits} {said reads : SlotValue} {room : Offsets} {leaves : Files → Type 0} {d : Files} (st : Stands limits said reads room leaves d)
    → InPart part reads room d (whole st)
in_part Ip st = record { items = st.ip; records = st.in_ip.records; offsets = st.in_ip.offsets_are; is = refl }
in_part Dp st = record { items = st.dp; records = st.in_dp.records; offsets = st.in_dp.offsets_are; is = refl }
