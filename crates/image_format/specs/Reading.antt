-- What is read of a disk: what its value says, and where its records begin.
use Rattle.std.specs.Prelude.{ℕ, ◌≡◌, List, Option, Some, Result, Ok, Err}
use Rattle.tape_types.specs.Counts.{Rose}
use Rattle.tape_types.specs.declared.cartridges.Item.{Item}
use Rattle.tape_types.specs.declared.cartridges.Limits.{Limits}
use Rattle.tape_types.specs.declared.cartridges.Part.{Part}
use Rattle.byte_disk.specs.Files.{Files}
use Rattle.image_format.specs.declared.refusal.ReadErr.{ReadErr}
use Rattle.image_format.specs.declared.refusal.ReadErr.TheVariants.{Disk, Refused}
use Rattle.image_format.specs.declared.refusal.Refusal.TheVariants.{Header, Record}
use Rattle.image_format.specs.declared.values.Half.{Half}
use Rattle.image_format.specs.declared.values.SlotValue.{SlotValue}
use Rattle.image_format.specs.Images.{cartridge_of, header, image, image_by, joined}
use Rattle.image_format.specs.Offsets.{Offsets, offsets_from}
use Rattle.image_format.specs.Records.{items_in}

-- what the header of a disk says, where something was made on it
pub record IsHeaderOf (limits : Limits) (d : Files) (said : Option SlotValue) : Type 0 where
  pub header : header limits d.cm ≡ said
  pub image : image limits d ≡ image_by d said

-- a walk over the records of a partition tells where they begin, or the first one at fault
abbrev pub IsFoundIn : {T : Type 0} → Part → Half → List ℕ → Result T ReadErr → List ℕ → Type 0
IsFoundIn part h file (Ok _) offsets =
    (items : List Item) × (items_in h file ≡ Ok items) × (offsets ≡ offsets_from 0 items)
IsFoundIn part h file (Err (Refused why)) offsets = (n : ℕ) × (why ≡ Record part n) × (items_in h file ≡ Err n)
IsFoundIn part h file (Err Disk) offsets = Unit {0}

-- the records of both partitions were found, which these offsets are of
pub record AreFound (s : SlotValue) (d : Files) (room : Offsets) (ip dp : List Item) : Type 0 where
  pub in_ip : items_in s.ip d.ip ≡ Ok ip
  pub in_dp : items_in s.dp d.dp ≡ Ok dp
  pub at_ip : room.ip ≡ offsets_from 0 ip
  pub at_dp : room.dp ≡ offsets_from 0 dp

-- what is found of the records of both partitions, or the first one at fault
abbrev pub AreSought : {T : Type 0} → SlotValue → Files → Result T ReadErr → Offsets → Type 0
AreSought s d (Ok _) room = (ip dp : List Item) × AreFound s d room ip dp
AreSought s d (Err (Refused why)) room = joined s (items_in s.ip d.ip) (items_in s.dp d.dp) ≡ Err why
AreSought s d (Err Disk) room = Unit {0}

-- What is read of a disk: its header and where its records begin, and then the files are those of the cartridge with
-- these items; or why they are no image. Where the disk failed it says nothing of them.
abbrev pub IsRead : Limits → Files → Result SlotValue ReadErr → Offsets → Type 0
IsRead limits d (Ok s) room = (ip dp : List Item) × (header limits d.cm ≡ Some s) × AreFound s d room ip dp
    × (image limits d ≡ Ok (cartridge_of s ip dp))
IsRead limits d (Err (Refused why)) room = image limits d ≡ Err why
IsRead limits d (Err Disk) room = Unit {0}

-- Why nothing was read: `Header` has this reason, and a fault of the disk is told only where its count of faults rose.
abbrev pub IsBlamed : Type 0 → ℕ → ℕ → ReadErr → Type 0
IsBlamed P before now (Refused Header) = P
IsBlamed P before now (Refused (Record part n)) = Unit {0}
IsBlamed P before now Disk = Rose before now
