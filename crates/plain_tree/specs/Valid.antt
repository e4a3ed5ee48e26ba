-- What is true of every tree that calls reach.
use Rattle.std.specs.Prelude.{◌≡◌, ◌≢◌, ℕ, ◌^◌, ◌≤◌, [], Bool, true, false, Option, Some, None}
use Rattle.std.specs.FinMap as fin
use Rattle.tape_types.specs.Bounds.{most_nodes}
use Rattle.plain_tree.specs.declared.nodes.Node.{Node}
use Rattle.plain_tree.specs.declared.nodes.Kind.{Kind}
use Rattle.plain_tree.specs.declared.nodes.Kind.TheVariants as kinds
use Rattle.plain_tree.specs.Paths.{Path, parent_of}
use Rattle.plain_tree.specs.Tree.{Tree, Nodes}

abbrev pub is_dir : Kind → Bool
is_dir kinds.Dir = true
is_dir (kinds.File cells) = false
is_dir (kinds.Link text) = false

-- a node's uid, and whether it is a directory
abbrev pub mark_of : Option Node → Option (ℕ × Bool)
mark_of None = None
mark_of (Some node) = Some (node.uid, is_dir node.kind)

abbrev pub mark_at : Nodes → Path → Option (ℕ × Bool)
mark_at nodes path = mark_of (fin.get nodes path)

-- The root is a directory with uid 1, and each other node stands in a directory. No uid is given twice; uids are at
-- least 1 and at most the highest, which is at most 2^62. There are at most 65,536 nodes.
pub record IsShape (mark : Path → Option (ℕ × Bool)) (count highest : ℕ) : Type 0 where
  pub root : mark [] ≡ Some (1, true)
  pub parents : (p : Path) (uid : ℕ) (dir : Bool) → mark p ≡ Some (uid, dir) → p ≢ []
      → (parent : ℕ) × (mark (parent_of p) ≡ Some (parent, true))
  pub given : (p : Path) (uid : ℕ) (dir : Bool) → mark p ≡ Some (uid, dir) → (1 ≤ uid) × (uid ≤ highest)
  pub distinct : (p q : Path) (uid : ℕ) (d e : Bool) → mark p ≡ Some (uid, d) → mark q ≡ Some (uid, e) → p ≡ q
  pub bounded : highest ≤ 2 ^ 62
  pub few : count ≤ most_nodes

abbrev pub IsValid : Tree → Type 0
IsValid t = IsShape (mark_at t.nodes) (fin.len t.nodes) t.highest

-- the nodes of a valid tree
abbrev pub AreValid : Nodes → Type 0
AreValid nodes = (highest : ℕ) × IsShape (mark_at nodes) (fin.len nodes) highest
