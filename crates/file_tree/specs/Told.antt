-- The nodes of a tree as an index tells them (LTFS 2.4 on the index).
use Rattle.std.specs.Prelude.{◌≡◌, ℕ, ◌+◌, List, [], ◌∷◌, if◌then◌else◌, map, Option, Some, None}
use Rattle.std.specs.FinMap as fin
use Rattle.tape_types.specs.declared.cartridges.Extent.{Extent}
use Rattle.tape_types.specs.declared.cartridges.Part.{Part}
use Rattle.tape_types.specs.declared.cartridges.Part.TheVariants as parts
use Rattle.tape_types.specs.NodeKeys.Keys.{list_of}
use Rattle.index_model.specs.declared.nodes.Node as told
use Rattle.index_model.specs.declared.nodes.NodeKind as told_kind
use Rattle.index_model.specs.declared.nodes.NodeKind.TheVariants as told_kinds
use Rattle.index_model.specs.declared.nodes.RawExtent.{RawExtent}
use Rattle.index_model.specs.Places.{IsAt}
use Rattle.plain_tree.specs.Paths.{same_path, parent_of, last_name}
use Rattle.file_tree.specs.declared.nodes.Node.{Node}
use Rattle.file_tree.specs.declared.nodes.HeldKind.{HeldKind}
use Rattle.file_tree.specs.declared.nodes.HeldKind.TheVariants as kinds
use Rattle.file_tree.specs.Tree.{Nodes, FileTree, number_at}
use Rattle.file_tree.specs.Mounts.{Letters}
use Rattle.plain_tree.specs.Paths.{Path}

-- the letter of a partition
abbrev pub letter_of : Letters → Part → ℕ
letter_of letters parts.Ip = letters.0
letter_of letters parts.Dp = letters.1

-- an extent, with the letter of its partition
abbrev pub raw_of : Letters → Extent → RawExtent
raw_of letters e = record {
  offset = e.offset;
  letter = letter_of letters e.part;
  block = e.block;
  byte = e.byte;
  count = e.count;
}

-- what is told of what a node is: of a file its length and its extents
abbrev pub told_kind_of : Letters → HeldKind → told_kind.NodeKind
told_kind_of letters kinds.Dir = told_kinds.Dir
told_kind_of letters (kinds.File room) = told_kinds.File room.laid.length (map (raw_of letters) room.laid.extents)
told_kind_of letters (kinds.Link text) = told_kinds.Link text

-- what is told of a node, given the place of its directory and its name
abbrev pub told_node_of : Letters → ℕ → List ℕ → Node → told.Node
told_node_of letters parent name node =
    record {
      parent = parent;
      uid = node.uid;
      name = name;
      times = node.times;
      readonly = node.readonly;
      xattrs = list_of node.keys.map;
      kind = told_kind_of letters node.kind;
    }

-- the place of a path among paths, counted from 0
abbrev pub place_of : Path → List Path → ℕ
place_of path [] = 0
place_of path (first ∷ paths) = if same_path path first then 0 else place_of path paths + 1

-- the name, or that of the volume where there is none
abbrev pub name_or : List ℕ → Option (List ℕ) → List ℕ
name_or volume None = volume
name_or volume (Some name) = name

-- What is told of the node at a path: the place of its directory's path among all paths, and the last name of its own.
-- The root is in itself, and has the name of the volume.
abbrev pub told_of : Letters → List ℕ → List Path → (Path × Node) → told.Node
told_of letters volume paths e =
    told_node_of letters (place_of (parent_of e.0) paths) (name_or volume (last_name e.0)) e.1

-- all nodes in the order of their paths, which is that of a document
abbrev pub told_in : Letters → List ℕ → Nodes → List told.Node
told_in letters volume nodes = map (told_of letters volume (fin.keys nodes)) (fin.entries nodes)

abbrev pub told_nodes : Letters → FileTree → List told.Node
told_nodes letters t = told_in letters t.name t.nodes

-- at the number of each path stands the place of the path among all paths
abbrev pub ArePlaces : Nodes → List ℕ → Type 0
ArePlaces nodes places = (path : Path) (number : ℕ) → number_at nodes path ≡ Some number
    → IsAt places number (place_of path (fin.keys nodes))

-- no number stands at two places
abbrev pub AreApart : List ℕ → Type 0
AreApart numbers = (a b number : ℕ) → IsAt numbers a number → IsAt numbers b number → a ≡ b
