-- What is true of every tree that is kept.
use Rattle.std.specs.Prelude.{◌≡◌, ℕ, ◌<◌, ◌≤◌, ◌^◌, List, [], ◌∷◌, ◌++◌, Some}
use Rattle.std.specs.FinMap as fin
use Rattle.std.specs.Str.{IsUtf8}
use Rattle.tape_types.specs.declared.cartridges.Part.{Part}
use Rattle.index_model.specs.Keys.{IsXattr}
use Rattle.index_model.specs.Names.{IsVolumeName, IsNodeName}
use Rattle.plain_tree.specs.Valid.{IsValid}
use Rattle.extent_map.specs.Laid.{Laid, Room, IsLaid}
use Rattle.extent_map.specs.Cells.{Tape}
use Rattle.file_tree.specs.declared.nodes.Node.{Node}
use Rattle.file_tree.specs.declared.nodes.HeldKind.TheVariants as kinds
use Rattle.plain_tree.specs.Paths.{Name, Path}
use Rattle.file_tree.specs.Tree.{Nodes, FileTree, number_at, plain_of}
use Rattle.file_tree.specs.Blocks.{TreeStandsIn}

-- the file lies as files of the volume do
pub record IsFileOf (block_size : ℕ) (laid : Laid) : Type 0 where
  pub size : laid.block_size ≡ block_size
  pub lies : IsLaid laid

-- each file does
abbrev pub AreFilesOf : ℕ → Nodes → Type 0
AreFilesOf block_size m = (path : Path) (node : Node) (room : Room) → fin.get m path ≡ Some node
    → node.kind ≡ kinds.File room → IsFileOf block_size room.laid

-- no two nodes have one number
abbrev pub NumbersDiffer : Nodes → Type 0
NumbersDiffer m = (p q : Path) (number : ℕ) → number_at m p ≡ Some number → number_at m q ≡ Some number → p ≡ q

-- the name, the text and the attributes of a node are such as an index may tell
pub record IsFit (path : Path) (node : Node) : Type 0 where
  pub named : (front : Path) (name : Name) → path ≡ front ++ name ∷ [] → IsNodeName name
  pub text : (text : List ℕ) → node.kind ≡ kinds.Link text → IsUtf8 text
  pub keys : (key value : List ℕ) → fin.get node.keys.map key ≡ Some value
      → IsXattr (record { key = key; value = value })

-- those of each node are
abbrev pub AreFit : Nodes → Type 0
AreFit m = (path : Path) (node : Node) → fin.get m path ≡ Some node → IsFit path node

-- It is a valid plain tree, whatever stands on tape, and its files lie as files of the volume do. No two nodes have one
-- number. Names, texts of links, attributes and positions of blocks are such as an index may tell.
pub record IsGood (t : FileTree) : Type 0 where
  pub some_block : 1 ≤ t.block_size
  pub small_block : t.block_size < 2 ^ 32
  pub valid : (tape : Tape) → IsValid (plain_of tape t)
  pub files : AreFilesOf t.block_size t.nodes
  pub differ : NumbersDiffer t.nodes
  pub volume : IsVolumeName t.name
  pub fit : AreFit t.nodes
  pub near : (part : Part) (pos : ℕ) → TreeStandsIn t part pos → pos ≤ 2 ^ 62
