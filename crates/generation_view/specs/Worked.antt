-- A cartridge and files by hand, on which the definitions are tried.
use Rattle.std.specs.Prelude.{ℕ, ◌≡◌, List, [], ◌∷◌, ◌++◌, false, Some, None}
use Rattle.tape_types.specs.declared.cartridges.Cartridge.{Cartridge}
use Rattle.tape_types.specs.declared.cartridges.Item.{Item}
use Rattle.tape_types.specs.declared.cartridges.Item.TheVariants.{Mark}
use Rattle.ltfs_label.specs.Values.{epoch}
use Rattle.plain_tree.specs.Tree.{times_at}
use Rattle.index_model.specs.Grammar.{IndexText}
use Rattle.index_model.specs.declared.indexes.Index.{Index}
use Rattle.index_model.specs.declared.nodes.Node.{Node}
use Rattle.index_model.specs.declared.nodes.NodeKind.TheVariants.{File}
use Rattle.content_laws.specs.Worked.{block, first_index, second_index, synced_dp}
use Rattle.content_laws.specs.Readings.{Construct}
use Rattle.cartridge_meaning.specs.Meaning.{Found}
use Rattle.cartridge_meaning.specs.Pointers.{text_of}
use Rattle.cartridge_meaning.specs.Worked.{cartridge, extent, index, label, on_b, third_index, two}

-- a file with this UID, and so many bytes from a block of the partition with this letter on
abbrev pub file : (uid letter block byte count : ℕ) → Node
file uid letter block byte count = record {
  parent = 0;
  uid = uid;
  name = 97 ∷ [];
  times = times_at epoch;
  readonly = false;
  xattrs = [];
  kind = File count (extent letter block byte count ∷ []);
}

-- a data partition with three indexes, the last directly behind the second
abbrev pub three_dp : List Item
three_dp = synced_dp ++ Mark ∷ block 7 ∷ Mark ∷ []

abbrev pub three : Cartridge
three = record cartridge { dp = three_dp }

abbrev pub all_three : List Construct
all_three = third_index ∷ two

-- what they read as: the second has a file in the block before it, and no index has the generation 3
abbrev pub oldest : Index
oldest = index 1 (on_b 5) None

abbrev pub middle : Index
middle = record (index 2 (on_b 9) (Some (on_b 5))) { nodes = file 2 98 7 0 4096 ∷ [] }

abbrev pub newest : Index
newest = record (index 4 (on_b 12) (Some (on_b 9))) { nodes = file 2 98 7 0 4096 ∷ [] }

-- the second with two files more, one on its opening mark and one in itself
abbrev pub crossed : Index
crossed = record middle { nodes = file 2 98 7 0 4096 ∷ file 3 98 8 0 1 ∷ file 4 98 9 0 1 ∷ [] }

-- the cartridge mounts, and its indexes read as these
pub record Reads (third second first : Index) : Type 0 where
  pub found : Found three
  pub label_is : found.labels.ip ≡ label
  pub third_is : IndexText (text_of third_index) third
  pub second_is : IndexText (text_of second_index) second
  pub first_is : IndexText (text_of first_index) first
