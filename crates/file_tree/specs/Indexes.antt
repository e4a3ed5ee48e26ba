-- The index that tells a tree: that it is valid, and that the tree comes back of it.
use Rattle.std.specs.Prelude.{◌≡◌, ◌≢◌, ℕ, ◌<◌, List, map}
use Rattle.std.specs.Option.{option_map}
use Rattle.std.specs.FinMap as fin
use Rattle.index_model.specs.declared.indexes.Index.{Index}
use Rattle.std.specs.declared.cmp.Ordering.TheVariants.{Less}
use Rattle.tape_types.specs.NodeKeys.Keys.{list_of, map_of}
use Rattle.index_model.specs.declared.nodes.Node as told
use Rattle.index_model.specs.declared.nodes.NodeKind as told_kind
use Rattle.index_model.specs.declared.nodes.NodeKind.TheVariants as told_kinds
use Rattle.index_model.specs.Places.{IsAt}
use Rattle.plain_tree.specs.Links.{name_cmp}
use Rattle.index_model.specs.Texts.{IsLetter}
use Rattle.index_model.specs.Valid.{IsFitVolume, IsValid}
use Rattle.extent_map.specs.Cells.{Tape}
use Rattle.file_tree.specs.declared.nodes.Node.{Node}
use Rattle.file_tree.specs.declared.nodes.HeldKind.{HeldKind}
use Rattle.file_tree.specs.declared.nodes.HeldKind.TheVariants as kinds
use Rattle.plain_tree.specs.Paths.{Path}
use Rattle.file_tree.specs.Locks.{told_lock}
use Rattle.file_tree.specs.Tree.{FileTree, plain_of}
use Rattle.file_tree.specs.Mounts.{Letters, laid_of, CanMount, IsTreeOf}
use Rattle.file_tree.specs.Told.{raw_of, told_nodes}
use Rattle.file_tree.specs.Valid.{IsGood}

-- the index has the nodes of the tree, its highest uid, and the word for its lock
pub record TellsTree (letters : Letters) (t : FileTree) (index : Index) : Type 0 where
  pub nodes : index.nodes ≡ told_nodes letters t
  pub highest : index.highest ≡ t.highest
  pub lock : index.lock ≡ told_lock t.lock

-- two letters of partitions
pub record AreLetters (letters : Letters) : Type 0 where
  pub ip : IsLetter letters.0
  pub dp : IsLetter letters.1

abbrev pub without_room : HeldKind → HeldKind
without_room kinds.Dir = kinds.Dir
without_room (kinds.File room) = kinds.File (record { laid = room.laid; spare = 0 })
without_room (kinds.Link text) = kinds.Link text

-- a node without what an index doesn't tell: its number, and for how many extents and attributes more there is memory
abbrev pub as_told : Node → Node
as_told node = record node { number = 0; keys = record node.keys { spare = 0 }; kind = without_room node.kind }

-- both trees have the same lock, name and blocks, and at each path the same node, but for its number
pub record IsSameTree (t other : FileTree) : Type 0 where
  pub highest : other.highest ≡ t.highest
  pub lock : other.lock ≡ t.lock
  pub name : other.name ≡ t.name
  pub block_size : other.block_size ≡ t.block_size
  pub nodes : (path : Path) → option_map as_told (fin.get other.nodes path) ≡ option_map as_told (fin.get t.nodes path)

-- The index that tells a tree is valid, can be mounted, and is mounted as that tree: also its plain tree is the same,
-- whatever stands on tape.
pub record IndexesComeBack : Type 0 where
  pub valid : (letters : Letters) (t : FileTree) (index : Index)
      → IsGood t → AreLetters letters → TellsTree letters t index → IsFitVolume index → IsValid index
  pub mounts : (letters : Letters) (t : FileTree) (index : Index)
      → IsGood t → letters.0 ≢ letters.1 → TellsTree letters t index → IsValid index
      → CanMount index letters t.block_size
  pub same : (letters : Letters) (t other : FileTree) (index : Index)
      → IsGood t → letters.0 ≢ letters.1 → TellsTree letters t index → IsTreeOf letters t.block_size index other
      → IsSameTree t other
  pub plain : (tape : Tape) (t other : FileTree) → IsSameTree t other → plain_of tape other ≡ plain_of tape t

-- in each directory the nodes stand by the bytes of their names
abbrev pub NamesAscend : List told.Node → Type 0
NamesAscend nodes = (at later : ℕ) (node other : told.Node) → 0 < at → at < later
    → IsAt nodes at node → IsAt nodes later other → node.parent ≡ other.parent → name_cmp node.name other.name ≡ Less

-- a file's extents by their offsets, cut at its length, without those of no bytes
abbrev pub kind_in_order : Letters → ℕ → told_kind.NodeKind → told_kind.NodeKind
kind_in_order letters size told_kinds.Dir = told_kinds.Dir
kind_in_order letters size (told_kinds.File bytes raws) =
    told_kinds.File bytes (map (raw_of letters) (laid_of letters size bytes raws).extents)
kind_in_order letters size (told_kinds.Link text) = told_kinds.Link text

abbrev pub node_in_order : Letters → ℕ → told.Node → told.Node
node_in_order letters size node =
    record node { xattrs = list_of (map_of node.xattrs); kind = kind_in_order letters size node.kind }

-- The tree of an index whose nodes stand by their names tells these nodes again, each file's extents by their offsets
-- and each node's attributes by their keys.
abbrev pub IndexesAreToldAgain : Type 0
IndexesAreToldAgain = (letters : Letters) (size : ℕ) (index : Index) (t : FileTree)
    → CanMount index letters size → NamesAscend index.nodes → IsTreeOf letters size index t
    → told_nodes letters t ≡ map (node_in_order letters size) index.nodes
