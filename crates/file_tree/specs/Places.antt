-- The places in which nodes are kept, and what may be done with them.
use Rattle.std.specs.Prelude.{◌≡◌, ℕ, ◌+◌, ◌<◌, ◌≤◌, min, max, List, [], ◌∷◌, ◌++◌, length, take, Option, Some, None}
use Rattle.std.specs.FinMap as fin
use Rattle.tape_types.specs.Bounds.{most_nodes}
use Rattle.plain_tree.specs.Seen.{CanLeave, CanMove}
use Rattle.file_tree.specs.declared.nodes.Node.{Node}
use Rattle.file_tree.specs.declared.nodes.Spot.{Spot}
use Rattle.file_tree.specs.Tree.{Nodes, number_at, plain_nodes, whole}
use Rattle.file_tree.specs.Seen.{held, IsShown, IsKept}
use Rattle.plain_tree.specs.Paths.{Path}

-- what stands at each path, for how many nodes more there is memory, and how many places there are
pub record Stored : Type 0 where
  pub nodes : Nodes
  pub spare : ℕ
  pub slots : ℕ

-- what stands at each path, for how many places more there is memory, and what is kept at each place
pub record StoreView : Type 0 where
  pub nodes : Nodes
  pub spare : ℕ
  pub spots : List (Option Spot)

-- the least of three numbers
abbrev pub least : ℕ → ℕ → ℕ → ℕ
least a b c = min a (min b c)

-- how many places are used
abbrev pub used : List (Option Spot) → ℕ
used [] = 0
used (None ∷ spots) = used spots
used (Some spot ∷ spots) = used spots + 1

-- the places keep these nodes, so many, and there are no more places than nodes may be
pub record IsStored (spots : List (Option Spot)) (count : ℕ) (m : Nodes) : Type 0 where
  pub shown : IsShown (held spots) m
  pub counted : count ≡ fin.len m
  pub filled : count ≡ used spots
  pub few : length spots ≤ most_nodes

-- some path has this number
abbrev pub IsThere : Nodes → ℕ → Type 0
IsThere m number = (path : Path) × (number_at m path ≡ Some number)

-- a path leads nowhere, and the last node on its way has this number
pub record IsLast (m : Nodes) (path : Path) (number : ℕ) : Type 0 where
  pub names : ℕ
  pub shorter : names < length path
  pub there : number_at m (take names path) ≡ Some number
  pub missing : fin.get m (take (names + 1) path) ≡ None

-- a node may be put under a name into the directory with this number
pub record CanPut (t : Stored) (dir : ℕ) (name : List ℕ) : Type 0 where
  pub path : Path
  pub stands : number_at t.nodes path ≡ Some dir
  pub free : fin.get t.nodes (path ++ name ∷ []) ≡ None
  pub space : fin.len t.nodes < most_nodes
  pub room : 1 ≤ t.spare

-- a node may be put at this place, under a name into the directory with this number
pub record CanFill (t : StoreView) (place dir : ℕ) (name : List ℕ) : Type 0 where
  pub path : Path
  pub stands : number_at t.nodes path ≡ Some dir
  pub free : fin.get t.nodes (path ++ name ∷ []) ≡ None
  pub within : place < length t.spots
  pub empty : held t.spots place ≡ None

-- a node may be put behind all others, under a name into the directory with this number
pub record CanAppend (t : StoreView) (dir : ℕ) (name : List ℕ) : Type 0 where
  pub path : Path
  pub stands : number_at t.nodes path ≡ Some dir
  pub free : fin.get t.nodes (path ++ name ∷ []) ≡ None
  pub space : length t.spots < most_nodes

-- a node may be stored, under a name in the directory with this number
pub record CanStore (t : StoreView) (dir : ℕ) (name : List ℕ) : Type 0 where
  pub path : Path
  pub stands : number_at t.nodes path ≡ Some dir
  pub free : fin.get t.nodes (path ++ name ∷ []) ≡ None
  pub space : used t.spots < most_nodes
  pub room : 1 ≤ t.spare

-- the node with this number may be taken out, as in the plain tree
pub record CanTake (m : Nodes) (number : ℕ) : Type 0 where
  pub front : Path
  pub name : List ℕ
  pub stands : number_at m (front ++ name ∷ []) ≡ Some number
  pub can : CanLeave (plain_nodes whole m) (front ++ name ∷ [])

-- the node with this number may come under this name into a directory, as in the plain tree
pub record CanShift (m : Nodes) (number dir : ℕ) (name : List ℕ) : Type 0 where
  pub front : Path
  pub old_name : List ℕ
  pub up : Path
  pub stands : number_at m (front ++ old_name ∷ []) ≡ Some number
  pub dir_stands : number_at m up ≡ Some dir
  pub can : CanMove (plain_nodes whole m) (front ++ old_name ∷ []) (up ++ name ∷ [])

-- the node that is kept at this number is another one with that number, in its place
pub record IsChangedIn (before next : List (Option Spot)) (n : ℕ) (P : Node → Node → Type 0) : Type 0 where
  pub old : Spot
  pub new : Node
  pub was : held before n ≡ Some old
  pub changed : P old.node new
  pub same : new.number ≡ old.node.number
  pub kept : IsKept (held before) (held next) n (Some (record { parent = old.parent; name = old.name; node = new }))
  pub filled : used next ≡ used before
  pub long : length next ≡ length before

-- what is kept at this number is another thing
pub record IsSetIn (before next : List (Option Spot)) (n : ℕ) (spot : Option Spot) : Type 0 where
  pub kept : IsKept (held before) (held next) n spot
  pub long : length next ≤ max (length before) (n + 1)
