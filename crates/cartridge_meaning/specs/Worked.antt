-- Labels, indexes and extents by hand, on which the definitions are tried.
use Rattle.std.specs.Prelude.{◌≡◌, ℕ, List, [], ◌∷◌, false, Option, Some, None}
use Rattle.tape_types.specs.declared.cartridges.Cartridge.{Cartridge}
use Rattle.tape_types.specs.declared.cartridges.Item.{Item}
use Rattle.tape_types.specs.declared.cartridges.Item.TheVariants.{Block, Mark}
use Rattle.tape_types.specs.declared.cartridges.Note.TheVariants.{Absent}
use Rattle.coherency.specs.Notes.{HasValues}
use Rattle.coherency.specs.declared.Coherency.{Coherency}
use Rattle.content_laws.specs.Readings.{Construct}
use Rattle.content_laws.specs.Worked.{empty_dp, first_index, second_index, synced_dp}
use Rattle.index_model.specs.Grammar.{IndexText}
use Rattle.index_model.specs.declared.indexes.Index.{Index}
use Rattle.index_model.specs.declared.indexes.Spot.{Spot}
use Rattle.index_model.specs.declared.nodes.RawExtent.{RawExtent}
use Rattle.ltfs_label.specs.declared.Label.{Label}
use Rattle.ltfs_label.specs.Values.{LabelValue, epoch, label_of}
use Rattle.cartridge_meaning.specs.Labels.{HasLabels}
use Rattle.cartridge_meaning.specs.declared.labels.Labels.{Labels}

-- the volume of the index partition `a` and the data partition `b`, with blocks of 4,096 bytes
abbrev pub label : Label
label = record {
  creator = [];
  formatted = epoch;
  uuid = 7;
  location = 97;
  index = 97;
  dpart = 98;
  block = 4096;
  compression = false;
}

-- the block at a position of the one or the other partition
abbrev pub on_a : ℕ → Spot
on_a block = record { letter = 97; block = block }

abbrev pub on_b : ℕ → Spot
on_b block = record { letter = 98; block = block }

-- an index of this generation, which says that it stands there, and points back
abbrev pub index : ℕ → Spot → Option Spot → Index
index generation here back = record {
  creator = [];
  comment = None;
  uuid = 7;
  generation = generation;
  updated = epoch;
  here = here;
  back = back;
  allow = false;
  policy = None;
  lock = None;
  highest = 1;
  nodes = [];
}

-- the indexes of a data partition that has two, and what the last of them reads as
abbrev pub two : List Construct
two = second_index ∷ first_index ∷ []

abbrev pub last : Index
last = index 2 (on_b 9) (Some (on_b 5))

-- a third index
abbrev pub third_index : Construct
third_index = record { mark = 11; blocks = (7 ∷ []) ∷ [] }

-- an index partition with one index, and a data partition with two
abbrev pub cartridge : Cartridge
cartridge = record { ip = empty_dp; dp = synced_dp; vcr = 3; note_ip = Absent; note_dp = Absent }

-- an extent at a byte of a block of the partition with this letter
abbrev pub extent : (letter block byte count : ℕ) → RawExtent
extent letter block byte count = record { offset = 0; letter = letter; block = block; byte = byte; count = count }

-- what the label says in the index partition, and in the data partition
abbrev pub in_index : LabelValue
in_index = label_of label

abbrev pub in_data : LabelValue
in_data = record (label_of label) { location = 98 }

-- a partition with a record, a label and the text of one index, which stands at position 5
abbrev pub with_index : (vol1 label text : List ℕ) → List Item
with_index vol1 label text = Block vol1 ∷ Mark ∷ Block label ∷ Mark ∷ Mark ∷ Block text ∷ Mark ∷ []

-- a partition has one index, of generation 2, with these pointers
pub record HasOne (items : List Item) (here : Spot) (back : Option Spot) : Type 0 where
  pub vol1 : List ℕ
  pub label_text : List ℕ
  pub text : List ℕ
  pub items_are : items ≡ with_index vol1 label_text text
  pub index : Index
  pub spelled : IndexText text index
  pub uuid : index.uuid ≡ 7
  pub generation : index.generation ≡ 2
  pub here_is : index.here ≡ here
  pub back_is : index.back ≡ back

-- A volume of the volume change reference 3, with an index on each partition. That of the data partition has this back
-- pointer, and both notes have these values.
pub record IsClosed (c : Cartridge) (back : Option Spot) (values : Coherency) : Type 0 where
  pub labels : Labels
  pub has : HasLabels c labels
  pub uuid : labels.ip.uuid ≡ 7
  pub on_a : labels.ip.index ≡ 97
  pub on_b : labels.ip.dpart ≡ 98
  pub ip : HasOne c.ip (record { letter = 97; block = 5 }) (Some (record { letter = 98; block = 5 }))
  pub dp : HasOne c.dp (record { letter = 98; block = 5 }) back
  pub vcr : c.vcr ≡ 3
  pub ip_note : HasValues c.note_ip values
  pub dp_note : HasValues c.note_dp values

-- what a note says
abbrev pub note : (vcr generation block uuid : ℕ) → Coherency
note vcr generation block uuid = record { vcr = vcr; generation = generation; block = block; uuid = uuid }
