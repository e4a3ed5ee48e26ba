-- A tree that is kept as links, seen as a map from paths.
use Rattle.std.specs.Prelude.{◌≡◌, ◌≢◌, ℕ, ◌+◌, ◌<◌, ◌^◌, [], ◌∷◌, ◌++◌, false, length, nat_lt, true, Some, None}
use Rattle.std.specs.Prelude.{IsSome}
use Rattle.std.specs.Coded.{Π_prop, coded_option, Coded-set}
use Rattle.std.specs.Cmp.Lexicographic.{lists_total, nat_list_cmp_total}
use Rattle.std.specs.FinMap as fin
use Rattle.tape_types.specs.Bounds.{most_nodes}
use mathlib.Core.HLevel.{Σ_prop_path}
use mathlib.Core.Path.{sym, ◌∙◌}
use Rattle.plain_tree.specs.declared.nodes.Node.{Node}
use Rattle.plain_tree.specs.declared.calls.Refusal.{Refusal}
use Rattle.plain_tree.specs.declared.links.Links.{Links}
use Rattle.plain_tree.specs.contracts.nodes.Node as node
use Rattle.plain_tree.specs.Paths.{Name, Path, parent_of, is_at_or_below}
use Rattle.plain_tree.specs.Refusals.{why_missing}
use Rattle.plain_tree.specs.Tree.{Nodes, entries_in}
use Rattle.plain_tree.specs.Valid.{mark_at, IsShape, AreValid}
use Rattle.plain_tree.specs.Links.{child, walk}

-- the map that has at each path what the path leads to; there is one at most
abbrev pub Seen : Node → Links → Type 0
Seen root links = (nodes : Nodes) × ((path : Path) → fin.get nodes path ≡ walk (child links) (Some root) path)

pub Seen-prop : (root : Node) (links : Links) → IsProp (Seen root links)
Seen-prop root links a b =
    Σ_prop_path (λ m. Π_prop (λ p. Coded-set (coded_option node.the_row.coded) _ _))
    (fin.same_map (lists_total nat_list_cmp_total)
    (fin.slice_cmp-IsAntisymmetric (fin.slice_cmp-IsAntisymmetric fin.nat_cmp-IsAntisymmetric))
    a.0 b.0 (λ p. a.1 p ∙ sym (b.1 p)))

-- no node has this uid
abbrev pub HasNoUid : Nodes → ℕ → Type 0
HasNoUid nodes uid = (path : Path) (n : Node) → fin.get nodes path ≡ Some n → n.uid ≢ uid

-- The nodes are valid, only nodes that are there have anything below them, and the nodes are counted.
pub record IsKept (nodes : Nodes) (links : Links) (count : ℕ) : Type 0 where
  pub valid : AreValid nodes
  pub owned : (uid : ℕ) (name : Name) → HasNoUid nodes uid → child links uid name ≡ None
  pub counted : count ≡ fin.len nodes

-- nothing stands at the path, and this is why
pub record IsMissing (nodes : Nodes) (path : Path) (refusal : Refusal) : Type 0 where
  pub none : fin.get nodes path ≡ None
  pub reason : refusal ≡ why_missing nodes path (length path)

-- the path has this last name, and the path before it leads to a directory of this uid
pub record IsPlace (nodes : Nodes) (path : Path) (uid : ℕ) (name : Name) : Type 0 where
  pub front : Path
  pub dir : Node
  pub split : path ≡ front ++ name ∷ []
  pub there : fin.get nodes front ≡ Some dir
  pub uid_is : dir.uid ≡ uid

-- a node with the next uid may stand at the path, of which the parent is there
pub record CanStand (nodes : Nodes) (path : Path) (new : Node) : Type 0 where
  pub highest : ℕ
  pub shape : IsShape (mark_at nodes) (fin.len nodes) highest
  pub next : new.uid ≡ highest + 1
  pub room : highest < 2 ^ 62
  pub space : fin.len nodes < most_nodes
  pub named : path ≢ []
  pub free : fin.get nodes path ≡ None
  pub up : (uid : ℕ) × (mark_at nodes (parent_of path) ≡ Some (uid, true))

-- the node at the path may be taken out: it is there, isn't the root, and has nothing below it
pub record CanLeave (nodes : Nodes) (path : Path) : Type 0 where
  pub there : IsSome (fin.get nodes path)
  pub named : path ≢ []
  pub bare : nat_lt 0 (length (entries_in nodes path)) ≡ false
  pub up : (uid : ℕ) × (mark_at nodes (parent_of path) ≡ Some (uid, true))

-- the node at a path may come to another, where nothing stands, in a directory that isn't below it
pub record CanMove (nodes : Nodes) (from to : Path) : Type 0 where
  pub there : IsSome (fin.get nodes from)
  pub from_named : from ≢ []
  pub to_named : to ≢ []
  pub free : (path : Path) → is_at_or_below to path ≡ true → fin.get nodes path ≡ None
  pub apart : is_at_or_below from to ≡ false
  pub from_up : (uid : ℕ) × (mark_at nodes (parent_of from) ≡ Some (uid, true))
  pub up : (uid : ℕ) × (mark_at nodes (parent_of to) ≡ Some (uid, true))
