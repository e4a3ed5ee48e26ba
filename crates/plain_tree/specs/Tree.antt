-- The tree of a volume (LTFS 2.4 on the index), and what stands where in it.
use Rattle.std.specs.Prelude.{ℕ, ◌+◌, ◌<◌, ◌≤◌, List, [], Bool, true, false, not, if◌then◌else◌, map, length, Option, Some, None}
use Rattle.std.specs.Prelude.{option_and_then}
use Rattle.std.specs.Str.{bytes_eq}
use Rattle.std.specs.List.{filter_map}
use Rattle.std.specs.Option.{option_map}
use Rattle.std.specs.FinMap as fin
use Rattle.tape_types.specs.Bounds.{longest_file}
use Rattle.tape_types.specs.declared.moments.Moment.{Moment}
use Rattle.tape_types.specs.declared.moments.Times.{Times}
use Rattle.plain_tree.specs.declared.nodes.Node.{Node}
use Rattle.plain_tree.specs.declared.nodes.Kind.{Kind}
use Rattle.plain_tree.specs.declared.nodes.Kind.TheVariants as kinds
use Rattle.plain_tree.specs.declared.calls.Sort.{Sort}
use Rattle.plain_tree.specs.declared.calls.Sort.TheVariants as sorts
use Rattle.plain_tree.specs.declared.calls.Entry.{Entry}
use Rattle.plain_tree.specs.declared.calls.Facts.{Facts}
use Rattle.plain_tree.specs.declared.calls.LockState.{LockState}
use Rattle.plain_tree.specs.declared.calls.LockState.TheVariants as locks
use Rattle.plain_tree.specs.declared.changes.NodeChange.{NodeChange}
use Rattle.plain_tree.specs.declared.changes.NodeChange.TheVariants as changes
use Rattle.plain_tree.specs.declared.changes.NodeWrite.{NodeWrite}
use Rattle.plain_tree.specs.declared.changes.NodeWrite.TheVariants as writes
use Rattle.plain_tree.specs.Cells.{Cell, written, resized}
use Rattle.plain_tree.specs.Paths.{Path, path_cmp, name_in, moved_path}

-- what stands at each path
abbrev pub Nodes : Type 0
Nodes = fin.FinMap path_cmp Node

-- the highest uid that was ever given, the lock state of the volume, and what stands at each path
pub record Tree : Type 0 where
  pub highest : ℕ
  pub lock : LockState
  pub nodes : Nodes

abbrev pub times_at : Moment → Times
times_at at = record { create = at; change = at; modify = at; access = at; backup = at }

-- a node that was made at a moment, without attributes
abbrev pub new_node : Kind → ℕ → Moment → Node
new_node kind uid at = record { uid = uid; times = times_at at; readonly = false; keys = fin.empty; kind = kind }

-- the tree with the root alone
abbrev pub empty_tree : Moment → Tree
empty_tree at = record { highest = 1; lock = locks.Absent; nodes = fin.insert fin.empty [] (new_node kinds.Dir 1 at) }

-- the map with the node at a path changed, where there is one
abbrev pub changed_at : (Node → Node) → Path → Nodes → Nodes
changed_at change path nodes = found (fin.get nodes path)
  where
    found : Option Node → Nodes
    found None = nodes
    found (Some node) = fin.insert nodes path (change node)

-- change and modify time are this moment
abbrev pub touched : Moment → Node → Node
touched at node = record node { times = record node.times { change = at; modify = at } }

-- the change time is this moment
abbrev pub change_noted : Moment → Node → Node
change_noted at node = record node { times = record node.times { change = at } }

-- the map with the node at a path touched
abbrev pub touch : Moment → Path → Nodes → Nodes
touch at path nodes = changed_at (touched at) path nodes

-- a file with its cells changed, touched; another node as it is
abbrev pub file_changed : (List Cell → List Cell) → Moment → Node → Node
file_changed change at node = of_kind node.kind
  where
    of_kind : Kind → Node
    of_kind kinds.Dir = node
    of_kind (kinds.File cells) = touched at (record node { kind = kinds.File (change cells) })
    of_kind (kinds.Link text) = node

-- a file with these bytes from the offset on, touched; another node as it is
abbrev pub written_to : ℕ → List ℕ → Moment → Node → Node
written_to offset bytes at = file_changed (λ cells. written cells offset (map Some bytes)) at

-- ---- attributes

-- the bytes of a key of the node at a path
abbrev pub value_at : Nodes → Path → List ℕ → Option (List ℕ)
value_at nodes path key = option_and_then (λ (node : Node). fin.get node.keys key) (fin.get nodes path)

-- the key has these bytes
abbrev pub has_value : Nodes → Path → List ℕ → List ℕ → Bool
has_value nodes path key bytes = found (value_at nodes path key)
  where
    found : Option (List ℕ) → Bool
    found None = false
    found (Some value) = bytes_eq value bytes

-- how many keys the node at a path has
abbrev pub key_count : Nodes → Path → ℕ
key_count nodes path = found (fin.get nodes path)
  where
    found : Option Node → ℕ
    found None = 0
    found (Some node) = fin.len node.keys

-- a node with the bytes of a key, whose change is noted
abbrev pub key_set : List ℕ → List ℕ → Moment → Node → Node
key_set key bytes at node = change_noted at (record node { keys = fin.insert node.keys key bytes })

-- a node without a key, whose change is noted
abbrev pub key_dropped : List ℕ → Moment → Node → Node
key_dropped key at node = change_noted at (record node { keys = fin.remove node.keys key })

-- ---- read-only nodes

-- the flag of the node at a path; where nothing stands there is none
abbrev pub flag_at : Nodes → Path → Bool
flag_at nodes path = found (fin.get nodes path)
  where
    found : Option Node → Bool
    found None = false
    found (Some node) = node.readonly

abbrev pub same_flag : Bool → Bool → Bool
same_flag flag on = if on then flag else not flag

-- a node with this flag, whose change is noted
abbrev pub flagged : Bool → Moment → Node → Node
flagged on at node = change_noted at (record node { readonly = on })

-- a node with a change made at a moment
abbrev pub changed_by : NodeChange → Moment → Node → Node
changed_by changes.Touch at node = touched at node
changed_by changes.Note at node = change_noted at node
changed_by (changes.Resize size) at node = file_changed (λ cells. resized cells size) at node
changed_by (changes.Flag on) at node = flagged on at node
changed_by (changes.DropKey key) at node = key_dropped key.now at node

-- a node with a change made that takes memory
abbrev pub written_by : NodeWrite → Moment → Node → Node
written_by (writes.File offset bytes) at node = written_to offset bytes.now at node
written_by (writes.Key key bytes) at node = key_set key.now bytes.now at node

-- some bytes come into a file, and it doesn't grow too long
abbrev pub CanWrite : NodeWrite → Type 0
CanWrite (writes.File offset bytes) = (0 < length bytes.now) × (offset + length bytes.now ≤ longest_file)
CanWrite (writes.Key key bytes) = Unit {0}

-- each node at or below `from` stands at or below `to`, and all others stay
abbrev pub moved : Path → Path → Nodes → Nodes
moved from to nodes = fin.from_entries (map (λ e. (moved_path from to e.0, e.1)) (fin.entries nodes))

abbrev pub sort_of : Kind → Sort
sort_of kinds.Dir = sorts.Dir
sort_of (kinds.File cells) = sorts.File
sort_of (kinds.Link text) = sorts.Link

-- the cells of a file, and none of another node
abbrev pub cells_of_kind : Kind → List Cell
cells_of_kind kinds.Dir = []
cells_of_kind (kinds.File cells) = cells
cells_of_kind (kinds.Link text) = []

-- the text of a link, and none of another node
abbrev pub text_of_kind : Kind → List ℕ
text_of_kind kinds.Dir = []
text_of_kind (kinds.File cells) = []
text_of_kind (kinds.Link text) = text

-- the cells of the file at a path
abbrev pub cells_at : Nodes → Path → List Cell
cells_at nodes path = found (fin.get nodes path)
  where
    found : Option Node → List Cell
    found None = []
    found (Some node) = cells_of_kind node.kind

abbrev pub facts_of : Node → Facts
facts_of node =
    record {
      sort = sort_of node.kind;
      uid = node.uid;
      length = length (cells_of_kind node.kind);
      text = text_of_kind node.kind;
      times = node.times;
    }

-- the line of a node that stands directly in a directory
abbrev pub entry_in : Path → (Path × Node) → Option Entry
entry_in dir e = option_map (λ name. record { sort = sort_of e.1.kind; name = name }) (name_in dir e.0)

-- what stands directly in a directory, by the bytes of the names
abbrev pub entries_in : Nodes → Path → List Entry
entries_in nodes dir = filter_map (entry_in dir) (fin.entries nodes)
