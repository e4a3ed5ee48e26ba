-- What calls on the tree need, and what they leave.
use Rattle.std.specs.Prelude.{◌≡◌, ◌≢◌, ◌⊎◌, ◌↔◌, ℕ, ◌≤◌, ◌^◌, List, [], ◌∷◌, ◌++◌, Bool, false, Option, Some, None}
use Rattle.std.specs.Option.{option_map}
use Rattle.std.specs.FinMap as fin
use Rattle.tape_types.specs.declared.moments.Moment.{Moment}
use Rattle.tape_types.specs.declared.cartridges.Extent.{Extent}
use Rattle.tape_types.specs.declared.cartridges.Part.{Part}
use Rattle.plain_tree.specs.declared.calls.Call.{Call}
use Rattle.plain_tree.specs.declared.calls.Call.TheVariants as asks
use Rattle.plain_tree.specs.declared.calls.Refusal.TheVariants as refusals
use Rattle.plain_tree.specs.declared.calls.Sort.{Sort}
use Rattle.plain_tree.specs.declared.calls.Sort.TheVariants as sorts
use Rattle.plain_tree.specs.Refusals.{refusal_of}
use Rattle.plain_tree.specs.Calls.{after, with_length}
use Rattle.plain_tree.specs.Cells.{written}
use Rattle.plain_tree.specs.Tree as plain
use Rattle.extent_map.specs.Laid.{Laid, Room}
use Rattle.extent_map.specs.Cells.{Tape, cells_of}
use Rattle.extent_map.specs.Blocks.{StandsIn}
use Rattle.file_tree.specs.declared.nodes.Node.{Node}
use Rattle.file_tree.specs.declared.nodes.HeldKind.{HeldKind}
use Rattle.file_tree.specs.declared.nodes.HeldKind.TheVariants as kinds
use Rattle.file_tree.specs.Blocks.{Ends, AddsNoBlock, LiesBelow}
use Rattle.file_tree.specs.Changes.{CanOverlay}
use Rattle.file_tree.specs.Tree.{Nodes, FileTree, StandsAt, HasExtents, HasLaid, plain_of, whole}
use Rattle.plain_tree.specs.Paths.{Path}

-- the call that makes a node of a sort; none makes a link
abbrev pub making : Sort → Path → Option Call
making sorts.Dir path = Some (asks.Mkdir path)
making sorts.File path = Some (asks.Create path)
making sorts.Link path = None

-- a node of this sort can be made under this name in the directory with this number, for which there is memory
pub record CanMake (t : FileTree) (dir : ℕ) (name : List ℕ) (sort : Sort) : Type 0 where
  pub path : Path
  pub stands : StandsAt t path dir
  pub call : Call
  pub made_by : making sort (path ++ name ∷ []) ≡ Some call
  pub free : refusal_of (plain_of whole t) call ≡ None
  pub room : 1 ≤ t.spare

-- a node that was made at a moment, without attributes; a number is given when it is put into the tree
abbrev pub made_node : ℕ → HeldKind → Moment → Node
made_node uid kind at = record {
  number = 0;
  uid = uid;
  times = plain.times_at at;
  readonly = false;
  keys = record { map = fin.empty; spare = 0 };
  kind = kind;
}

-- what a new node of a sort is: a file has no bytes
abbrev pub IsNewKind : ℕ → Sort → HeldKind → Type 0
IsNewKind size sorts.Dir kind = kind ≡ kinds.Dir
IsNewKind size sorts.File kind = (room : Room) × (kind ≡ kinds.File room)
    × (room.laid ≡ record { block_size = size; length = 0; extents = [] })
IsNewKind size sorts.Link kind = kind ≡ kinds.Dir

-- at the path stands a file of this length
pub record IsLongAt (nodes : Nodes) (path : Path) (length : ℕ) : Type 0 where
  pub node : Node
  pub room : Room
  pub there : fin.get nodes path ≡ Some node
  pub file : node.kind ≡ kinds.File room
  pub long : room.laid.length ≡ length

-- each block of the extent stands where an index may tell it
abbrev pub IsNear : ℕ → Extent → Type 0
IsNear block_size new = (part : Part) (pos : ℕ) → StandsIn block_size new part pos → pos ≤ 2 ^ 62

-- the extent can be put into the file with this number, for which there is memory
pub record CanWrite (t : FileTree) (file : ℕ) (new : Extent) : Type 0 where
  pub room : Room
  pub extents : HasExtents t.nodes file room
  pub can : CanOverlay room new
  pub near : IsNear t.block_size new

-- the node with this number can be removed
pub record CanUnlink (t : FileTree) (number : ℕ) : Type 0 where
  pub path : Path
  pub stands : StandsAt t path number
  pub free : refusal_of (plain_of whole t) (asks.Remove path) ≡ None

-- the node with this number can be renamed to another path, under this name in the directory with this number
pub record CanMoveTo (t : FileTree) (number dir : ℕ) (name : List ℕ) : Type 0 where
  pub path : Path
  pub up : Path
  pub stands : StandsAt t path number
  pub dir_stands : StandsAt t up dir
  pub free : refusal_of (plain_of whole t) (asks.Rename path (up ++ name ∷ [])) ≡ None
  pub apart : path ≢ up ++ name ∷ []

-- there is memory for one more key of the node with this number
abbrev pub HasKeyRoom : FileTree → ℕ → Type 0
HasKeyRoom t number = (path : Path) (node : Node) → fin.get t.nodes path ≡ Some node → node.number ≡ number
    → 1 ≤ node.keys.spare

-- the node with this number can get these other bytes of a key, for which there is memory
pub record CanSetKey (t : FileTree) (number : ℕ) (key value : List ℕ) : Type 0 where
  pub path : Path
  pub stands : StandsAt t path number
  pub free : refusal_of (plain_of whole t) (asks.Setx path key value) ≡ None
  pub apart : plain.has_value (plain_of whole t).nodes path key value ≡ false
  pub room : HasKeyRoom t number

-- the node with this number can lose the key
pub record CanDropKey (t : FileTree) (number : ℕ) (key : List ℕ) : Type 0 where
  pub path : Path
  pub stands : StandsAt t path number
  pub free : refusal_of (plain_of whole t) (asks.Dropx path key) ≡ None

-- the node with this number can get this other flag
pub record CanFlag (t : FileTree) (number : ℕ) (on : Bool) : Type 0 where
  pub path : Path
  pub stands : StandsAt t path number
  pub free : refusal_of (plain_of whole t) (asks.Readonly path on) ≡ None
  pub apart : plain.same_flag (plain.flag_at (plain_of whole t).nodes path) on ≡ false

-- whatever stands on tape, the tree is what the plain tree is after the call
abbrev pub IsAfter : Call → Moment → FileTree → FileTree → Type 0
IsAfter call at before next = (tape : Tape) → plain_of tape next ≡ after (plain_of tape before) call at

-- whatever stands on tape, the extent's bytes are written into the file at each path that has its number, and it is
-- touched
abbrev pub IsWritten : ℕ → Extent → Moment → FileTree → FileTree → Type 0
IsWritten file new at before next = (tape : Tape) (path : Path) → StandsAt before path file
    → plain_of tape next
    ≡ record (plain_of tape before) {
      nodes = plain.changed_at
          (plain.file_changed (λ cells. written cells new.offset (cells_of tape before.block_size new)) at)
          path (plain_of tape before).nodes;
    }

-- whatever stands on tape, the file has this length, as a truncation leaves it
abbrev pub IsTruncated : ℕ → ℕ → Moment → FileTree → FileTree → Type 0
IsTruncated file length at before next = (tape : Tape) (path : Path) → StandsAt before path file
    → plain_of tape next ≡ with_length (plain_of tape before) path length at

-- the volume's name and the bytes of a block stay
pub record KeepsVolume (before next : FileTree) : Type 0 where
  pub name : next.name ≡ before.name
  pub block_size : next.block_size ≡ before.block_size

-- each number that stood at a path stands at the path that it comes to
abbrev pub NumbersCome : (Path → Path) → FileTree → FileTree → Type 0
NumbersCome to before next = (path : Path) (number : ℕ) → StandsAt before path number → StandsAt next (to path) number

-- the file with this number lies as it did, or there is none before and after
abbrev pub LiesAlike : ℕ → FileTree → FileTree → Type 0
LiesAlike number before next = (laid : Laid) → HasLaid before.nodes number laid ↔ HasLaid next.nodes number laid

-- each file lies as it did, and none is gone or new, but for the one with this number
abbrev pub OthersLie : ℕ → FileTree → FileTree → Type 0
OthersLie but before next = (number : ℕ) → number ≢ but → LiesAlike number before next

-- each file lies as it did, and none is gone or new
abbrev pub AllLie : FileTree → FileTree → Type 0
AllLie before next = (number : ℕ) → LiesAlike number before next

-- what a node is but for its times, its flag and its attributes
abbrev pub outline : Node → ℕ × ℕ × HeldKind
outline node = (node.number, node.uid, node.kind)

-- At each path stands the same node as before, but for its times, its flag and its attributes; no uid is given, and the
-- volume's name and the bytes of a block stay. So each file lies as it did.
pub record KeepsOutline (before next : FileTree) : Type 0 where
  pub highest : next.highest ≡ before.highest
  pub nodes : (path : Path)
      → option_map outline (fin.get next.nodes path) ≡ option_map outline (fin.get before.nodes path)
  pub volume : KeepsVolume before next
  pub spare : next.spare ≡ before.spare

-- what keeps the outline of a tree keeps its numbers, its files and its blocks where they are
pub record OutlinesKeepFiles : Type 0 where
  pub numbers : (before next : FileTree) → KeepsOutline before next → NumbersCome (λ p. p) before next
  pub files : (before next : FileTree) → KeepsOutline before next → AllLie before next
  pub blocks : (before next : FileTree) → KeepsOutline before next → AddsNoBlock before next
  pub below : (ends : Ends) (before next : FileTree) → KeepsOutline before next → LiesBelow ends before
      → LiesBelow ends next

-- a refusal is that of a tape that has lost nothing, or tells of a lost byte where that tape would refuse nothing
abbrev pub RefusalsAreAlike : Type 0
RefusalsAreAlike = (tape : Tape) (t : FileTree) (call : Call)
    → (refusal_of (plain_of tape t) call ≡ refusal_of (plain_of whole t) call)
    ⊎ ((refusal_of (plain_of tape t) call ≡ Some refusals.Damaged) × (refusal_of (plain_of whole t) call ≡ None))
