-- The order in which a document tells its nodes: a directory before what is in it, and all of that before whatever
-- comes behind the directory.
use Rattle.std.specs.Prelude.{◌≡◌, ℕ, suc, ◌<◌, List}
use Rattle.index_model.specs.declared.nodes.NodeKind.TheVariants as kinds
use Rattle.index_model.specs.declared.nodes.Node.{Node}
use Rattle.index_model.specs.Places.{IsAt}

-- at this place stands a directory
pub record IsDirAt (nodes : List Node) (at : ℕ) : Type 0 where
  pub node : Node
  pub is : IsAt nodes at node
  pub dir : node.kind ≡ kinds.Dir

-- the node at a place is the one at this upper place, or is in it, or in a directory that is, and so on
pub data LiesIn (nodes : List Node) : ℕ → ℕ → Type 0 where
  itself : (at : ℕ) → LiesIn nodes at at
  through : (at upper : ℕ) (node : Node) → 0 < at → IsAt nodes at node → LiesIn nodes node.parent upper →
      LiesIn nodes at upper

-- the root: a directory, whose parent is given as place 0
pub record IsRoot (node : Node) : Type 0 where
  pub parent : node.parent ≡ 0
  pub dir : node.kind ≡ kinds.Dir

-- The root stands first. Each other node's parent is a directory that stands before it: the node directly before it, or
-- a directory that this one lies in.
pub record AreInOrder (nodes : List Node) : Type 0 where
  pub root : Node
  pub first : IsAt nodes 0 root
  pub is_root : IsRoot root
  pub before : (at : ℕ) (node : Node) → 0 < at → IsAt nodes at node → node.parent < at
  pub dirs : (at : ℕ) (node : Node) → IsAt nodes at node → IsDirAt nodes node.parent
  pub together : (at : ℕ) (node : Node) → IsAt nodes (suc at) node → LiesIn nodes at node.parent
