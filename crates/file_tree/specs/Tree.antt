-- The tree that is kept: what stands at each path, with files as extents, and the plain tree that it is.
use Rattle.std.specs.Prelude.{◌≡◌, ℕ, List}
use Rattle.std.specs.Prelude.{map, Option, Some}
use Rattle.std.specs.Option.{option_map}
use Rattle.std.specs.FinMap as fin
use Rattle.plain_tree.specs.declared.calls.LockState.{LockState}
use Rattle.plain_tree.specs.declared.nodes.Node as plain_node
use Rattle.plain_tree.specs.declared.nodes.Kind as plain_kind
use Rattle.plain_tree.specs.declared.nodes.Kind.TheVariants as plain_kinds
use Rattle.plain_tree.specs.Paths.{path_cmp, moved_path}
use Rattle.plain_tree.specs.Tree as plain
use Rattle.extent_map.specs.Laid.{Laid, Room}
use Rattle.extent_map.specs.Cells.{Tape, file_cells}
use Rattle.file_tree.specs.declared.nodes.Node.{Node}
use Rattle.file_tree.specs.declared.nodes.HeldKind.{HeldKind}
use Rattle.file_tree.specs.declared.nodes.HeldKind.TheVariants as kinds
use Rattle.plain_tree.specs.Paths.{Path}

-- what stands at each path
abbrev pub Nodes : Type 0
Nodes = fin.FinMap path_cmp Node

-- the highest uid that was ever given, the lock state of the volume, its name, the bytes of a block, what stands at
-- each path, and for how many nodes more there is memory
pub record FileTree : Type 0 where
  pub highest : ℕ
  pub lock : LockState
  pub name : List ℕ
  pub block_size : ℕ
  pub nodes : Nodes
  pub spare : ℕ

-- the number of the node at a path
abbrev pub number_at : Nodes → Path → Option ℕ
number_at nodes path = option_map (λ (n : Node). n.number) (fin.get nodes path)

-- each node at or below `from` stands at or below `to`, and all others stay
abbrev pub moved : Path → Path → Nodes → Nodes
moved from to nodes = fin.from_entries (map (λ e. (moved_path from to e.0, e.1)) (fin.entries nodes))

-- at this path stands the node with this number
abbrev pub StandsAt : FileTree → Path → ℕ → Type 0
StandsAt t path number = number_at t.nodes path ≡ Some number

-- the node with this number is a file with these extents
pub record HasExtents (nodes : Nodes) (number : ℕ) (room : Room) : Type 0 where
  pub path : Path
  pub node : Node
  pub there : fin.get nodes path ≡ Some node
  pub is : node.number ≡ number
  pub file : node.kind ≡ kinds.File room

-- the node with this number is a file that lies so
pub record HasLaid (nodes : Nodes) (number : ℕ) (laid : Laid) : Type 0 where
  pub path : Path
  pub node : Node
  pub there : fin.get nodes path ≡ Some node
  pub is : node.number ≡ number
  pub room : Room
  pub file : node.kind ≡ kinds.File room
  pub lies : room.laid ≡ laid

-- what a node is, with the bytes of a file
abbrev pub plain_kind_of : Tape → HeldKind → plain_kind.Kind
plain_kind_of tape kinds.Dir = plain_kinds.Dir
plain_kind_of tape (kinds.File room) = plain_kinds.File (file_cells tape room.laid)
plain_kind_of tape (kinds.Link text) = plain_kinds.Link text

abbrev pub plain_node_of : Tape → Node → plain_node.Node
plain_node_of tape node = record {
  uid = node.uid;
  times = node.times;
  readonly = node.readonly;
  keys = node.keys.map;
  kind = plain_kind_of tape node.kind;
}

abbrev pub plain_nodes : Tape → Nodes → plain.Nodes
plain_nodes tape nodes = fin.from_entries (map (λ e. (e.0, plain_node_of tape e.1)) (fin.entries nodes))

-- the plain tree that it is, given what stands on tape
abbrev pub plain_of : Tape → FileTree → plain.Tree
plain_of tape t = record { highest = t.highest; lock = t.lock; nodes = plain_nodes tape t.nodes }

-- a tape that has lost nothing
abbrev pub whole : Tape
whole part block byte = Some 0

-- a node of the plain tree has the uid, the times, the readonly flag and the attributes of the node that is kept; a
-- directory is one, and so is a link, with its text; a file has its cells
pub record PlainNodesAgree : Type 0 where
  pub uid : (tape : Tape) (node : Node) → (plain_node_of tape node).uid ≡ node.uid
  pub times : (tape : Tape) (node : Node) → (plain_node_of tape node).times ≡ node.times
  pub readonly : (tape : Tape) (node : Node) → (plain_node_of tape node).readonly ≡ node.readonly
  pub keys : (tape : Tape) (node : Node) → (plain_node_of tape node).keys ≡ node.keys.map
  pub dir : (tape : Tape) (node : Node) → node.kind ≡ kinds.Dir → (plain_node_of tape node).kind ≡ plain_kinds.Dir
  pub link : (tape : Tape) (node : Node) (text : List ℕ) → node.kind ≡ kinds.Link text
      → (plain_node_of tape node).kind ≡ plain_kinds.Link text
  pub file : (tape : Tape) (node : Node) (room : Room) → node.kind ≡ kinds.File room
      → (plain_node_of tape node).kind ≡ plain_kinds.File (file_cells tape room.laid)
