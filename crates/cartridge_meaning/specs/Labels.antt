-- The records and labels with which the partitions of a volume begin (LTFS 2.4 on labels).
use Rattle.std.specs.Prelude.{ℕ, ◌+◌, ◌≡◌, ◌≢◌, List, Some, slice_get}
use Rattle.tape_types.specs.declared.cartridges.Item.{Item}
use Rattle.tape_types.specs.declared.cartridges.Item.TheVariants.{Block, Mark}
use Rattle.tape_types.specs.declared.cartridges.Cartridge.{Cartridge}
use Rattle.vol_label.specs.Table.{IsRecord}
use Rattle.vol_label.specs.declared.Vol1.{Vol1}
use Rattle.ltfs_label.specs.Grammar.{LabelText}
use Rattle.ltfs_label.specs.Values.{LabelValue, label_of}
use Rattle.cartridge_meaning.specs.declared.labels.Labels.{Labels}

-- a block with these bytes stands at a position, and a file mark behind it
pub record IsMarkedBlock (items : List Item) (pos : ℕ) (bytes : List ℕ) : Type 0 where
  pub block : slice_get items pos ≡ Some (Block bytes)
  pub mark : slice_get items (pos + 1) ≡ Some Mark

-- a partition begins with this VOL1 record
pub record HasRecord (items : List Item) (record_is : Vol1) : Type 0 where
  pub bytes : List ℕ
  pub stands : IsMarkedBlock items 0 bytes
  pub spelled : IsRecord bytes record_is

-- behind that a partition has this label
pub record HasLabel (items : List Item) (label : LabelValue) : Type 0 where
  pub bytes : List ℕ
  pub stands : IsMarkedBlock items 2 bytes
  pub spelled : LabelText bytes label

-- the labels are of one formatting
pub record AreOfOneOrigin (ip dp : LabelValue) : Type 0 where
  pub creator : ip.creator ≡ dp.creator
  pub formatted : ip.formatted ≡ dp.formatted
  pub uuid : ip.uuid ≡ dp.uuid

-- the labels say the same of the volume's partitions and blocks
pub record AreOfOneLayout (ip dp : LabelValue) : Type 0 where
  pub index : ip.index ≡ dp.index
  pub dpart : ip.dpart ≡ dp.dpart
  pub block : ip.block ≡ dp.block
  pub compression : ip.compression ≡ dp.compression

-- the letters of the partitions differ, and each label stands in the partition of its location
pub record AreInTheirPlaces (ip dp : LabelValue) : Type 0 where
  pub letters : ip.index ≢ ip.dpart
  pub in_index : ip.location ≡ ip.index
  pub in_data : dp.location ≡ dp.dpart

-- the labels of both partitions are of one volume: they differ in their location alone, which is their partition's
-- letter
pub record AreOfOneVolume (ip dp : LabelValue) : Type 0 where
  pub origin : AreOfOneOrigin ip dp
  pub layout : AreOfOneLayout ip dp
  pub places : AreInTheirPlaces ip dp

-- the records and labels of a cartridge
pub record HasLabels (c : Cartridge) (l : Labels) : Type 0 where
  pub ip_record : HasRecord c.ip l.ip_record
  pub dp_record : HasRecord c.dp l.dp_record
  pub ip : HasLabel c.ip (label_of l.ip)
  pub dp : HasLabel c.dp (label_of l.dp)
  pub one_volume : AreOfOneVolume (label_of l.ip) (label_of l.dp)

abbrev pub HasSomeRecord : List Item → Type 0
HasSomeRecord items = (v : Vol1) × HasRecord items v

abbrev pub HasSomeLabel : List Item → Type 0
HasSomeLabel items = (l : LabelValue) × HasLabel items l
