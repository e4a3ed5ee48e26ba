-- The cartridges that the files of a disk open as.
use Rattle.std.proofs.Common.{◌≡◌, ℕ, ◌<◌, Bool, false, ◌==◌, ◌&&◌, nat_lt, List, length, take, Some, Result, Ok, ap, ◌∙◌, arith}
use Rattle.std.specs.Prelude.{if◌then◌else◌}
use Rattle.std.proofs.lemmas.Bool.{and_parts, ltb-true, false_from_ne_true}
use Rattle.tape_types.specs.declared.cartridges.Cartridge.{Cartridge}
use Rattle.tape_types.specs.declared.cartridges.Item.{Item}
use Rattle.tape_types.specs.declared.cartridges.Limits.{Limits}
use Rattle.byte_disk.specs.Files.{Files}
use Rattle.image_format.specs.declared.values.Half.{Half}
use Rattle.image_format.specs.declared.values.SlotValue.{SlotValue}
use Rattle.image_format.specs.Images.{Opens, blank, cartridge_of, header, image_by, is_blank, joined}
use Rattle.image_format.specs.Offsets.{Offsets}
use Rattle.image_format.specs.Records.{AreRecords, items_in}
use Rattle.image_format.proofs.ImageLemmas.{header_only}
use Rattle.image_format.proofs.RecordLemmas.{records_found}
use Rattle.image_tape.specs.Tape.{Agree, Lie, Stands}
use Rattle.image_tape.proofs.Fronts.{fewer_records, same_records}

-- a disk with a header isn't blank
not_blank : (d : Files) → length d.cm ≡ 512 → is_blank d ≡ false
not_blank d size = false_from_ne_true (is_blank d)
    (λ e. let less : length d.cm < 512 = ltb-true (length d.cm) 512 (and_parts ((length d.ip == 0) && (length d.dp == 0)) (nat_lt (length d.cm) 512) e).1 in
    omega (arith, less, size))

-- what the records of a value make
joined_by : (s : SlotValue) (d : Files) (ip dp : List Item) → AreRecords s.ip d.ip ip → AreRecords s.dp d.dp dp
    → image_by d (Some s) ≡ Ok (cartridge_of s ip dp)
joined_by s d ip dp in_ip in_dp =
    ap (λ (r : Result (List Item) ℕ). joined s r (items_in s.dp d.dp)) (records_found s.ip d.ip ip in_ip)
    ∙ ap (λ (r : Result (List Item) ℕ). joined s (Ok ip) r) (records_found s.dp d.dp dp in_dp)

opens_by : (limits : Limits) (s : SlotValue) (d : Files) (ip dp : List Item) → header limits d.cm ≡ Some s
    → AreRecords s.ip d.ip ip → AreRecords s.dp d.dp dp → Opens limits d (cartridge_of s ip dp)
opens_by limits s d ip dp head in_ip in_dp =
    ap (λ (t : Bool). if t then Ok blank else image_by d (header limits d.cm)) (not_blank d (header_only limits d.cm s head).counts.size)
    ∙ ap (image_by d) head
    ∙ joined_by s d ip dp in_ip in_dp

-- the records that count are records of the file
lie_counted : (said reads : Half) (offsets file : List ℕ) (items : List Item) → Lie said reads offsets file items
    → AreRecords said file (take said.count items)
lie_counted said reads offsets file items lie = fewer_records reads said file items lie.records lie.fewer lie.end

module _ {limits : Limits} {said reads : SlotValue} {room : Offsets} {leaves : Files → Type 0} {d : Files} where
  -- the cartridge of the items that count, and that of all that read
  abbrev pub counted : Stands limits said reads room leaves d → Cartridge
  counted st = cartridge_of said (take said.ip.count st.ip) (take said.dp.count st.dp)

  -- the cartridge of all items that read
  abbrev pub whole : Stands limits said reads room leaves d → Cartridge
  whole st = cartridge_of reads st.ip st.dp

  -- with what is said of all that reads, the files are the whole cartridge
  pub is_whole : (st : Stands limits said reads room leaves d) → image_by d (Some reads) ≡ Ok (whole st)
  is_whole st = joined_by reads d st.ip st.dp st.in_ip.records st.in_dp.records

  -- with what the header says, the files are the cartridge of what counts
  pub is_counted : (st : Stands limits said reads room leaves d) → image_by d (Some said) ≡ Ok (counted st)
  is_counted st = joined_by said d (take said.ip.count st.ip) (take said.dp.count st.dp)
      (lie_counted said.ip reads.ip room.ip d.ip st.ip st.in_ip) (lie_counted said.dp reads.dp room.dp d.dp st.dp st.in_dp)

  -- files that agree with those that read open as what counts, where their header says so
  pub agreed_opens : (st : Stands limits said reads room leaves d) (left : Files) → Agree said d left → header limits left.cm ≡ Some said
      → Opens limits left (counted st)
  agreed_opens st left agree head = opens_by limits said left (take said.ip.count st.ip) (take said.dp.count st.dp) head
      (same_records said.ip d.ip left.ip (take said.ip.count st.ip) (lie_counted said.ip reads.ip room.ip d.ip st.ip st.in_ip) agree.ip)
      (same_records said.dp d.dp left.dp (take said.dp.count st.dp) (lie_counted said.dp reads.dp room.dp d.dp st.dp st.in_dp) agree.dp)
