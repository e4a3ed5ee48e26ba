-- The tree of an index (LTFS 2.4 on the index).
use Rattle.std.specs.Prelude.{◌≡◌, ◌≢◌, ◌⊎◌, ℕ, ◌+◌, ◌*◌, ◌<◌, ◌≤◌, ◌^◌, List, [], ◌∷◌, ◌++◌, ◌==◌, if◌then◌else◌, map}
use Rattle.std.specs.Prelude.{fold, length, Some}
use Rattle.std.specs.List.{AllByRecursion}
use Rattle.std.specs.FinMap as fin
use Rattle.tape_types.specs.Bounds.{most_nodes}
use Rattle.tape_types.specs.declared.cartridges.Extent.{Extent}
use Rattle.tape_types.specs.declared.cartridges.Part.{Part}
use Rattle.tape_types.specs.declared.cartridges.Part.TheVariants as parts
use Rattle.tape_types.specs.NodeKeys.Keys.{map_of}
use Rattle.index_model.specs.declared.indexes.Index.{Index}
use Rattle.index_model.specs.declared.nodes.Node as told
use Rattle.index_model.specs.declared.nodes.NodeKind as told_kind
use Rattle.index_model.specs.declared.nodes.NodeKind.TheVariants as told_kinds
use Rattle.index_model.specs.declared.nodes.RawExtent.{RawExtent}
use Rattle.index_model.specs.Extents.{AreFiles, IsKind, IsFileAt}
use Rattle.index_model.specs.Keys.{AreKeysApart}
use Rattle.index_model.specs.Names.{AreNamesApart}
use Rattle.index_model.specs.Order.{AreInOrder}
use Rattle.index_model.specs.Places.{IsAt}
use Rattle.index_model.specs.Valid.{IsValid}
use Rattle.extent_map.specs.Laid.{Laid, Room, cut, put_among}
use Rattle.extent_map.specs.Blocks.{StandsIn}
use Rattle.file_tree.specs.declared.nodes.Node.{Node}
use Rattle.file_tree.specs.declared.nodes.HeldKind.{HeldKind}
use Rattle.file_tree.specs.declared.nodes.HeldKind.TheVariants as kinds
use Rattle.file_tree.specs.Locks.{lock_of}
use Rattle.file_tree.specs.Tree.{Nodes, FileTree}
use Rattle.file_tree.specs.Blocks.{Ends, TreeStandsIn, LiesBelow}
use Rattle.plain_tree.specs.Paths.{Path}

-- the letters of the index partition and the data partition
abbrev pub Letters : Type 0
Letters = ℕ × ℕ

abbrev pub part_of : Letters → ℕ → Part
part_of letters letter = if letter == letters.0 then parts.Ip else parts.Dp

abbrev pub extent_of : Letters → RawExtent → Extent
extent_of letters raw = record {
  offset = raw.offset;
  part = part_of letters raw.letter;
  block = raw.block;
  byte = raw.byte;
  count = raw.count;
}

-- extents, by their offsets
abbrev pub by_offset : List Extent → List Extent
by_offset es = fold (λ sorted e. put_among e sorted) [] es

-- how a file lies of which these extents are told: they are cut at its length, and those of no bytes are left out
abbrev pub laid_of : Letters → ℕ → ℕ → List RawExtent → Laid
laid_of letters size length raws = record {
  block_size = size;
  length = length;
  extents = by_offset (cut length (map (extent_of letters) raws));
}

-- a node is what is told of one
abbrev pub IsKindOf : Letters → ℕ → told_kind.NodeKind → HeldKind → Type 0
IsKindOf letters size told_kinds.Dir kind = kind ≡ kinds.Dir
IsKindOf letters size (told_kinds.File length raws) kind = (room : Room) × (kind ≡ kinds.File room)
    × (room.laid ≡ laid_of letters size length raws)
IsKindOf letters size (told_kinds.Link text) kind = kind ≡ kinds.Link text

pub record IsNodeOf (letters : Letters) (size : ℕ) (node : told.Node) (n : Node) : Type 0 where
  pub uid : n.uid ≡ node.uid
  pub times : n.times ≡ node.times
  pub readonly : n.readonly ≡ node.readonly
  pub keys : n.keys.map ≡ map_of node.xattrs
  pub kind : IsKindOf letters size node.kind n.kind

-- the path of the node at a place: the names from the root down, but for the root's
pub data IsPathOf (nodes : List told.Node) : ℕ → Path → Type 0 where
  root : IsPathOf nodes 0 []
  below : (at : ℕ) (node : told.Node) (front : Path) → 0 < at → IsAt nodes at node → IsPathOf nodes node.parent front
      → IsPathOf nodes at (front ++ node.name ∷ [])

-- the node at a place stands at its path, and the place is its number
pub record Stands (letters : Letters) (size : ℕ) (nodes : List told.Node) (m : Nodes) (at : ℕ)
    (node : told.Node) : Type 0 where
  pub path : Path
  pub path_is : IsPathOf nodes at path
  pub n : Node
  pub there : fin.get m path ≡ Some n
  pub number : n.number ≡ at
  pub same : IsNodeOf letters size node n

-- what stands at a path is the node at some place before this one
pub record IsTold (nodes : List told.Node) (before : ℕ) (path : Path) (n : Node) : Type 0 where
  pub node : told.Node
  pub is : IsAt nodes n.number node
  pub early : n.number < before
  pub path_is : IsPathOf nodes n.number path

-- the map has the nodes at the first places, each at its path, and no others
pub record IsBuilt (letters : Letters) (size : ℕ) (nodes : List told.Node) (before : ℕ) (m : Nodes) : Type 0 where
  pub each : (at : ℕ) (node : told.Node) → at < before → IsAt nodes at node → Stands letters size nodes m at node
  pub others : (path : Path) (n : Node) → fin.get m path ≡ Some n → IsTold nodes before path n
  pub count : fin.len m ≡ before

-- the extent is on one of the two partitions, and begins within a block, where it has bytes
abbrev pub IsOnVolume : Letters → ℕ → RawExtent → Type 0
IsOnVolume letters size raw = 0 < raw.count → ((raw.letter ≡ letters.0) ⊎ (raw.letter ≡ letters.1)) × (raw.byte < size)

-- each of its blocks stands where an index may tell it
abbrev pub EndsNear : Letters → ℕ → RawExtent → Type 0
EndsNear letters size raw = (part : Part) (pos : ℕ) → StandsIn size (extent_of letters raw) part pos → pos ≤ 2 ^ 62

-- a valid index, of which the extents are on the volume with these partitions and blocks of this size
pub record CanMount (index : Index) (letters : Letters) (size : ℕ) : Type 0 where
  pub valid : IsValid index
  pub differ : letters.0 ≢ letters.1
  pub some_block : 1 ≤ size
  pub on_volume : (at bytes : ℕ) (raws : List RawExtent) → IsFileAt index.nodes at bytes raws
      → AllByRecursion (IsOnVolume letters size) raws
  pub near : (at bytes : ℕ) (raws : List RawExtent) → IsFileAt index.nodes at bytes raws
      → AllByRecursion (EndsNear letters size) raws

-- what is known of the nodes of such an index
pub record AreTold (letters : Letters) (size : ℕ) (nodes : List told.Node) : Type 0 where
  pub some_block : 1 ≤ size
  pub order : AreInOrder nodes
  pub names : AreNamesApart nodes
  pub keys : AreKeysApart nodes
  pub files : AreFiles nodes
  pub kinds : AllByRecursion (λ node. IsKind node.kind) nodes
  pub on_volume : (at bytes : ℕ) (raws : List RawExtent) → IsFileAt nodes at bytes raws
      → AllByRecursion (IsOnVolume letters size) raws
  pub count : length nodes ≤ most_nodes

-- the tree is that of the index
pub record IsTreeOf (letters : Letters) (size : ℕ) (index : Index) (t : FileTree) : Type 0 where
  pub highest : t.highest ≡ index.highest
  pub lock : t.lock ≡ lock_of index.lock
  pub name : (root : told.Node) → IsAt index.nodes 0 root → t.name ≡ root.name
  pub block_size : t.block_size ≡ size
  pub nodes : IsBuilt letters size index.nodes (length index.nodes) t.nodes

-- a byte of some extent of some file that is told stands in the block at this position of a partition
pub record IndexStandsIn (letters : Letters) (size : ℕ) (nodes : List told.Node) (part : Part) (pos : ℕ) : Type 0 where
  pub at : ℕ
  pub bytes : ℕ
  pub raws : List RawExtent
  pub file : IsFileAt nodes at bytes raws
  pub which : ℕ
  pub raw : RawExtent
  pub is : IsAt raws which raw
  pub block : StandsIn size (extent_of letters raw) part pos

-- an extent that has bytes ends before the end of its partition
abbrev pub EndsBelow : Ends → Letters → ℕ → RawExtent → Type 0
EndsBelow ends letters size raw =
    0 < raw.count → raw.block * size + raw.byte + raw.count ≤ ends (part_of letters raw.letter) * size

-- The tree of an index stands in blocks of the index alone; and where each extent ends before the end of its partition,
-- the tree lies below the ends.
pub record MountsLieBelow : Type 0 where
  pub blocks : (letters : Letters) (size : ℕ) (index : Index) (t : FileTree) (part : Part) (pos : ℕ)
      → IsTreeOf letters size index t → TreeStandsIn t part pos → IndexStandsIn letters size index.nodes part pos
  pub below : (ends : Ends) (letters : Letters) (size : ℕ) (index : Index) (t : FileTree)
      → ((at bytes : ℕ) (raws : List RawExtent) → IsFileAt index.nodes at bytes raws
      → AllByRecursion (EndsBelow ends letters size) raws)
      → IsTreeOf letters size index t → LiesBelow ends t
