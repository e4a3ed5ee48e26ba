-- What is told of an index that isn't valid as a whole: the first test that fails, and the UID of the node at which it
-- fails first in the order of the document. The UIDs are tested first, then the names, the keys
-- of attributes, and the files.
use Rattle.std.specs.Prelude.{◌≡◌, ◌≢◌, ◌⊎◌, ℕ, ◌<◌, ◌≤◌, ◌^◌, List}
use Rattle.index_model.specs.declared.indexes.Index.{Index}
use Rattle.index_model.specs.declared.nodes.Node.{Node}
use Rattle.index_model.specs.declared.faults.Fault.{Fault}
use Rattle.index_model.specs.declared.faults.Fault.TheVariants as faults
use Rattle.index_model.specs.Extents.{HasOverlap, IsBadFile, IsOutOfBounds}
use Rattle.index_model.specs.Keys.{AreKeysApart, HasKeyTwice}
use Rattle.index_model.specs.Names.{AreNamesApart, HasTakenName}
use Rattle.index_model.specs.Places.{IsAt, IsFirst}
use Rattle.index_model.specs.Uids.{AreUids, HasBadUid}

-- at this place stands the node with the UID that is told
pub record IsTold (nodes : List Node) (at uid : ℕ) : Type 0 where
  pub node : Node
  pub is : IsAt nodes at node
  pub same : node.uid ≡ uid

-- the highest UID is told, since it is over 2^62
pub record IsHighestOver (index : Index) (uid : ℕ) : Type 0 where
  pub over : 2 ^ 62 < index.highest
  pub same : index.highest ≡ uid

-- else the first one that a node may not have beside those before it
pub record IsFirstBadUid (index : Index) (uid : ℕ) : Type 0 where
  pub bounded : index.highest ≤ 2 ^ 62
  pub at : ℕ
  pub first : IsFirst (HasBadUid index.highest index.nodes) at
  pub told : IsTold index.nodes at uid

-- else that of the root, since it isn't 1
pub record IsBadRootUid (index : Index) (uid : ℕ) : Type 0 where
  pub bounded : index.highest ≤ 2 ^ 62
  pub others : (at : ℕ) → ¬ HasBadUid index.highest index.nodes at
  pub wrong : uid ≢ 1
  pub told : IsTold index.nodes 0 uid

-- a UID is refused
abbrev pub RefusesUid : Index → ℕ → Type 0
RefusesUid index uid = IsHighestOver index uid ⊎ (IsFirstBadUid index uid ⊎ IsBadRootUid index uid)

-- the UIDs are right, and the first node is told that has the name of an earlier one of its directory
pub record RefusesName (index : Index) (uid : ℕ) : Type 0 where
  pub uids : AreUids index.highest index.nodes
  pub at : ℕ
  pub first : IsFirst (HasTakenName index.nodes) at
  pub told : IsTold index.nodes at uid

-- UIDs and names are right, and the first node is told that has a key twice
pub record RefusesKey (index : Index) (uid : ℕ) : Type 0 where
  pub uids : AreUids index.highest index.nodes
  pub names : AreNamesApart index.nodes
  pub at : ℕ
  pub first : IsFirst (HasKeyTwice index.nodes) at
  pub told : IsTold index.nodes at uid

-- UIDs, names and keys are right, and the first bad file is told
pub record IsFirstBadFile (index : Index) (at uid : ℕ) : Type 0 where
  pub uids : AreUids index.highest index.nodes
  pub names : AreNamesApart index.nodes
  pub keys : AreKeysApart index.nodes
  pub first : IsFirst (IsBadFile index.nodes) at
  pub told : IsTold index.nodes at uid

-- it is out of its bounds
pub record RefusesExtent (index : Index) (uid : ℕ) : Type 0 where
  pub at : ℕ
  pub bad : IsFirstBadFile index at uid
  pub out : IsOutOfBounds index.nodes at

-- it is within its bounds, but some of its extents overlap
pub record RefusesOverlap (index : Index) (uid : ℕ) : Type 0 where
  pub at : ℕ
  pub bad : IsFirstBadFile index at uid
  pub within : ¬ IsOutOfBounds index.nodes at
  pub overlap : HasOverlap index.nodes at

-- this is told of the index
abbrev pub IsToldOf : Index → Fault → Type 0
IsToldOf index (faults.Uid n) = RefusesUid index n
IsToldOf index (faults.SameName n) = RefusesName index n
IsToldOf index (faults.SameKey n) = RefusesKey index n
IsToldOf index (faults.Extent n) = RefusesExtent index n
IsToldOf index (faults.Overlap n) = RefusesOverlap index n
