-- What a search through the nodes tells: the UID of the first node that is wrong.
use Rattle.std.specs.Prelude.{◌≡◌, ◌⊎◌, ℕ, ◌<◌, Bool, true, false, List, Option, Some, None}
use Rattle.tape_types.specs.Bounds.{longest_file}
use Rattle.tape_types.specs.declared.node_keys.xattrs.Xattr.{Xattr}
use Rattle.index_model.specs.declared.faults.Fault.{Fault}
use Rattle.index_model.specs.declared.faults.Fault.TheVariants as faults
use Rattle.index_model.specs.declared.nodes.NodeKind.{NodeKind}
use Rattle.index_model.specs.declared.nodes.NodeKind.TheVariants as kinds
use Rattle.index_model.specs.declared.nodes.Node.{Node}
use Rattle.index_model.specs.declared.nodes.RawExtent.{RawExtent}
use Rattle.index_model.specs.Extents.{EndsTooFar, HasOverlap, IsBadFile, IsOutOfBounds, Overlap}
use Rattle.index_model.specs.Places.{IsAt, IsFirst}
use Rattle.index_model.specs.Refusals.{IsTold}

-- P holds nowhere before this place
abbrev pub IsNowhereBefore : (ℕ → Type 0) → ℕ → Type 0
IsNowhereBefore P at = (before : ℕ) → before < at → ¬ P before

-- the node at the first place where P holds has this UID
pub record IsToldFirst (P : ℕ → Type 0) (nodes : List Node) (uid : ℕ) : Type 0 where
  pub at : ℕ
  pub first : IsFirst P at
  pub told : IsTold nodes at uid

-- the UID of the node at the first place where P holds, or none where it holds nowhere
abbrev pub TellsFirst : (ℕ → Type 0) → List Node → Option ℕ → Type 0
TellsFirst P nodes None = (at : ℕ) → ¬ P at
TellsFirst P nodes (Some uid) = IsToldFirst P nodes uid

-- the attribute at this place has the key of an earlier one
pub record IsAgain (xattrs : List Xattr) (at : ℕ) : Type 0 where
  pub earlier : ℕ
  pub before : earlier < at
  pub one : Xattr
  pub one_is : IsAt xattrs earlier one
  pub other : Xattr
  pub other_is : IsAt xattrs at other
  pub same : one.key ≡ other.key

-- whether some attribute does so
abbrev pub TellsTwice : List Xattr → Bool → Type 0
TellsTwice xattrs true = (at : ℕ) × IsAgain xattrs at
TellsTwice xattrs false = (at : ℕ) → ¬ IsAgain xattrs at

-- a file of so many bytes with these extents is too long, or some extent ends too far
abbrev pub IsOut : ℕ → List RawExtent → Type 0
IsOut bytes extents = (longest_file < bytes) ⊎ EndsTooFar extents

-- what is told of a file with this UID, and none where nothing is wrong with it
abbrev pub TellsFile : ℕ → ℕ → List RawExtent → Option Fault → Type 0
TellsFile uid bytes extents None = (¬ IsOut bytes extents) × (¬ Overlap extents)
TellsFile uid bytes extents (Some (faults.Uid n)) = ⊥
TellsFile uid bytes extents (Some (faults.SameName n)) = ⊥
TellsFile uid bytes extents (Some (faults.SameKey n)) = ⊥
TellsFile uid bytes extents (Some (faults.Extent n)) = (n ≡ uid) × IsOut bytes extents
TellsFile uid bytes extents (Some (faults.Overlap n)) = (n ≡ uid) × ((¬ IsOut bytes extents) × Overlap extents)

-- what is told of a node with this UID: of a file as above, and of any other node nothing
abbrev pub TellsNode : ℕ → NodeKind → Option Fault → Type 0
TellsNode uid kinds.Dir fault = fault ≡ None
TellsNode uid (kinds.Link text) fault = fault ≡ None
TellsNode uid (kinds.File bytes extents) fault = TellsFile uid bytes extents fault

-- the first bad file has this UID, and Wrong holds of its place
pub record IsToldBad (nodes : List Node) (uid : ℕ) (Wrong : ℕ → Type 0) : Type 0 where
  pub at : ℕ
  pub first : IsFirst (IsBadFile nodes) at
  pub told : IsTold nodes at uid
  pub wrong : Wrong at

-- what is told of the first bad file, or none where each file is right
abbrev pub TellsBad : List Node → Option Fault → Type 0
TellsBad nodes None = (at : ℕ) → ¬ IsBadFile nodes at
TellsBad nodes (Some (faults.Uid n)) = ⊥
TellsBad nodes (Some (faults.SameName n)) = ⊥
TellsBad nodes (Some (faults.SameKey n)) = ⊥
TellsBad nodes (Some (faults.Extent n)) = IsToldBad nodes n (IsOutOfBounds nodes)
TellsBad nodes (Some (faults.Overlap n)) = IsToldBad nodes n (λ at. (¬ IsOutOfBounds nodes at) × HasOverlap nodes at)
