-- File UIDs (LTFS 2.4 on the file UID).
use Rattle.std.specs.Prelude.{◌≡◌, ◌⊎◌, ℕ, ◌<◌, ◌≤◌, ◌^◌, List}
use Rattle.index_model.specs.declared.nodes.Node.{Node}
use Rattle.index_model.specs.Places.{IsAt}

-- Of these nodes the root has UID 1, and no two have one UID. Each UID is at least 1 and at most the highest that was
-- ever given, which is at most 2^62.
pub record AreUids (highest : ℕ) (nodes : List Node) : Type 0 where
  pub bounded : highest ≤ 2 ^ 62
  pub least : (at : ℕ) (node : Node) → IsAt nodes at node → 1 ≤ node.uid
  pub most : (at : ℕ) (node : Node) → IsAt nodes at node → node.uid ≤ highest
  pub apart : (at other : ℕ) (node named : Node) → IsAt nodes at node → IsAt nodes other named →
      node.uid ≡ named.uid → at ≡ other
  pub root : (node : Node) → IsAt nodes 0 node → node.uid ≡ 1

-- a node before this place has the UID
pub record IsTakenUid (nodes : List Node) (at uid : ℕ) : Type 0 where
  pub earlier : ℕ
  pub before : earlier < at
  pub node : Node
  pub is : IsAt nodes earlier node
  pub same : node.uid ≡ uid

-- the node at this place has a UID that it may not have beside those before it: 0, one that is there already, or one
-- over the highest
pub record HasBadUid (highest : ℕ) (nodes : List Node) (at : ℕ) : Type 0 where
  pub node : Node
  pub is : IsAt nodes at node
  pub bad : (node.uid ≡ 0) ⊎ (IsTakenUid nodes at node.uid ⊎ (highest < node.uid))
