-- The lines of a tree: one for each node, and the line of the index that tells it; where all is told those of
-- attributes and of the lock state too.
use Rattle.std.specs.Prelude.{◌≡◌, ℕ, Bool, true, false, ◌&&◌, if◌then◌else◌, List, [], ◌∷◌, ◌++◌, length, map, take}
use Rattle.std.specs.Prelude.{codes, decimal, Option}
use Rattle.std.specs.List.{concat, flat_map}
use Rattle.std.specs.FinMap as fin
use Rattle.std.specs.Io.KnownBytes.{Appends}
use Rattle.tape_edge.specs.Streams.{AppendsFront}
use Rattle.tape_types.specs.NodeKeys.Keys.{entries_of}
use Rattle.index_model.specs.Places.{IsAt}
use Rattle.index_model.specs.declared.indexes.Spot.{Spot}
use Rattle.index_model.specs.declared.nodes.Node as told
use Rattle.index_model.specs.declared.nodes.NodeKind as told_kind
use Rattle.index_model.specs.declared.nodes.NodeKind.TheVariants as told_kinds
use Rattle.plain_tree.specs.declared.calls.LockState.{LockState}
use Rattle.plain_tree.specs.declared.calls.LockState.TheVariants as locks
use Rattle.plain_tree.specs.declared.nodes.Node.{Node}
use Rattle.plain_tree.specs.declared.nodes.Kind.{Kind}
use Rattle.plain_tree.specs.declared.nodes.Kind.TheVariants as kinds
use Rattle.plain_tree.specs.Paths.{Name, Path}
use Rattle.plain_tree.specs.Tree.{Tree}
use Rattle.session_script.specs.Escapes.{escaped}
use Rattle.tree_listing.specs.declared.errors.ListErr.{ListErr}
use Rattle.tree_listing.specs.declared.errors.ListErr.TheVariants as errors

-- `/` before each name, with controls, spaces, percent signs and bytes past ASCII escaped
abbrev pub names_text : Path → List ℕ
names_text path = flat_map (λ name. codes "/" ++ escaped name) path

-- that, or `/` alone for the root
abbrev pub path_text : Path → List ℕ
path_text [] = codes "/"
path_text (name ∷ path) = names_text (name ∷ path)

-- `d UID PATH`, `f UID LENGTH PATH` or `l UID PATH TEXT`
abbrev pub words_of_kind : (path : List ℕ) (uid : ℕ) → Kind → List ℕ
words_of_kind path uid kinds.Dir = codes "d " ++ decimal uid ++ codes " " ++ path
words_of_kind path uid (kinds.File cells) =
    codes "f " ++ decimal uid ++ codes " " ++ decimal (length cells) ++ codes " " ++ path
words_of_kind path uid (kinds.Link text) =
    codes "l " ++ decimal uid ++ codes " " ++ path ++ codes " " ++ escaped text

-- the line of a node, where not all is told
abbrev pub short_line : (Path × Node) → List ℕ
short_line e = words_of_kind (path_text e.0) e.1.uid e.1.kind ++ codes "\n"

-- what ends the line of a node: where all is told one more word, if the node is read-only
abbrev pub line_end : (all readonly : Bool) → List ℕ
line_end all readonly = if all && readonly then codes " readonly\n" else codes "\n"

-- `x LENGTH PATH KEY`: an attribute of the node at this path, and how many bytes its value has
abbrev pub key_line : (path : List ℕ) → (List ℕ × List ℕ) → List ℕ
key_line path e =
    codes "x " ++ decimal (length e.1) ++ codes " " ++ path ++ codes " " ++ escaped e.0 ++ codes "\n"

-- where all is told, a line for each attribute
abbrev pub key_lines : (all : Bool) → (path : List ℕ) → List (List ℕ × List ℕ) → List (List ℕ)
key_lines false path keys = []
key_lines true path keys = map (key_line path) keys

-- the line of a node, and those of its attributes by the bytes of their keys
abbrev pub lines_of : (all : Bool) → (Path × Node) → List (List ℕ)
lines_of all e =
    (words_of_kind (path_text e.0) e.1.uid e.1.kind ++ line_end all e.1.readonly)
    ∷ key_lines all (path_text e.0) (fin.entries e.1.keys)

-- the lines of all nodes, in the order of the paths
abbrev pub tree_lines : (all : Bool) → Tree → List (List ℕ)
tree_lines all tree = flat_map (lines_of all) (fin.entries tree.nodes)

abbrev pub lock_word : LockState → List ℕ
lock_word locks.Absent = codes "absent"
lock_word locks.Unlocked = codes "unlocked"
lock_word locks.Locked = codes "locked"
lock_word locks.PermLocked = codes "permlocked"

-- where all is told, `lock STATE`
abbrev pub lock_line : (all : Bool) → LockState → List ℕ
lock_line false state = []
lock_line true state = codes "lock " ++ lock_word state ++ codes "\n"

-- `LETTER BLOCK`: where an index stands
abbrev pub spot_text : Spot → List ℕ
spot_text spot = (spot.letter ∷ []) ++ codes " " ++ decimal spot.block

-- `generation G LETTER BLOCK`: the generation of an index, and where it stands
abbrev pub generation_line : ℕ → Spot → List ℕ
generation_line generation spot =
    codes "generation " ++ decimal generation ++ codes " " ++ spot_text spot ++ codes "\n"

-- what stands behind the lines of the nodes
abbrev pub last_lines : (all : Bool) → LockState → ℕ → Spot → List ℕ
last_lines all state generation spot = lock_line all state ++ generation_line generation spot

-- the lines of the tree, and the line of the index
abbrev pub listing_text : (all : Bool) → ℕ → Spot → Tree → List ℕ
listing_text all generation spot tree = concat (tree_lines all tree) ++ last_lines all tree.lock generation spot

-- so many lines of the tree from the front
abbrev pub first_lines : (all : Bool) → ℕ → Tree → List ℕ
first_lines all count tree = concat (take count (tree_lines all tree))

-- what an index tells of what a node is: of a file its length
abbrev pub TellsKind : told_kind.NodeKind → Kind → Type 0
TellsKind told_kinds.Dir kinds.Dir = Unit {0}
TellsKind (told_kinds.File size extents) (kinds.File cells) = size ≡ length cells
TellsKind (told_kinds.Link text) (kinds.Link same) = text ≡ same
TellsKind told kind = ⊥

-- An index tells a node of a tree: its uid, what it is, whether it is read-only and its attributes, by the bytes of
-- their keys; and, but of the root, its last name and the place of its directory among the paths of the tree.
pub record Tells (tree : Tree) (node : told.Node) (e : Path × Node) : Type 0 where
  pub uid : node.uid ≡ e.1.uid
  pub kind : TellsKind node.kind e.1.kind
  pub readonly : node.readonly ≡ e.1.readonly
  pub keys : entries_of node.xattrs ≡ fin.entries e.1.keys
  pub name : (front : Path) (name : Name) → e.0 ≡ front ++ name ∷ [] → node.name ≡ name
  pub parent : (front : Path) (name : Name) → e.0 ≡ front ++ name ∷ []
      → (dir : Node) × IsAt (fin.entries tree.nodes) node.parent (front, dir)

-- the nodes are those of a tree, in the order of the paths
pub record AreNodesOf (nodes : List told.Node) (tree : Tree) : Type 0 where
  pub count : length nodes ≡ length (fin.entries tree.nodes)
  pub each : (at : ℕ) (node : told.Node) (e : Path × Node) → IsAt nodes at node → IsAt (fin.entries tree.nodes) at e
      → Tells tree node e

-- What was written where not all of the text was: a front of it where the sink failed, and whole lines from its front
-- where memory was refused.
abbrev pub IsCutShort : (all : Bool) → ListErr → (text : List ℕ) → Tree → (old new : Option (List ℕ)) → Type 0
IsCutShort all errors.Sink text tree old new = AppendsFront old new text
IsCutShort all errors.NoMemory text tree old new = (count : ℕ) × Appends old new (first_lines all count tree)
