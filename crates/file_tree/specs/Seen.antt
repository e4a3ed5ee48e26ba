-- A tree that is kept as nodes under names, seen as a map from paths.
use Rattle.std.specs.Prelude.{◌≡◌, ◌≢◌, ℕ, Bool, true, false, ◌&&◌, not, ◌==◌, if◌then◌else◌, nat_eq, List, [], ◌∷◌}
use Rattle.std.specs.Prelude.{◌++◌, Option, Some, None, is_some, slice_get}
use Rattle.std.specs.List.{list_any}
use Rattle.std.specs.Option.{option_map}
use Rattle.std.specs.Coded.{Π_prop, coded_option, Coded-set}
use Rattle.std.specs.Cmp.Lexicographic.{pointwise, lists_total, nat_list_cmp_total}
use Rattle.std.specs.FinMap as fin
use mathlib.Core.HLevel.{Σ_prop_path}
use mathlib.Core.Path.{sym, ◌∙◌}
use Rattle.file_tree.specs.declared.nodes.Node.{Node}
use Rattle.file_tree.specs.declared.nodes.Spot.{Spot}
use Rattle.file_tree.specs.contracts.nodes.Node as node
use Rattle.file_tree.specs.Tree.{Nodes, number_at}
use Rattle.plain_tree.specs.Paths.{Path}

-- what is kept at each number
abbrev pub Held : Type 0
Held = ℕ → Option Spot

abbrev pub held : List (Option Spot) → Held
held spots n = found (slice_get spots n)
  where
    found : Option (Option Spot) → Option Spot
    found None = None
    found (Some spot) = spot

abbrev pub is_number : ℕ → Option Node → Bool
is_number n None = false
is_number n (Some node) = node.number == n

-- some path of the map has a node with this number
abbrev pub has_number : Nodes → ℕ → Bool
has_number m n = list_any (λ path. is_number n (fin.get m path)) (fin.keys m)

-- The map has what is kept: the root, whose number is 0, and each other node under its name in the node that has the
-- number of its directory.
pub record IsShown (at : Held) (m : Nodes) : Type 0 where
  pub root : number_at m [] ≡ Some 0
  pub rooted : (node : Node) → fin.get m [] ≡ Some node → at 0 ≡ Some (record { parent = 0; name = []; node = node })
  pub named : (path : Path) (name : List ℕ) (node : Node) (parent : ℕ) → fin.get m (path ++ name ∷ []) ≡ Some node
      → number_at m path ≡ Some parent → at node.number ≡ Some (record { parent = parent; name = name; node = node })
  pub up : (path : Path) (name : List ℕ) (node : Node) → fin.get m (path ++ name ∷ []) ≡ Some node
      → is_some (fin.get m path) ≡ true
  pub behind : (path : Path) (name : List ℕ) (node : Node) → fin.get m (path ++ name ∷ []) ≡ Some node → node.number ≢ 0
  pub numbered : (n : ℕ) (spot : Spot) → at n ≡ Some spot → spot.node.number ≡ n
  pub complete : (n : ℕ) (spot : Spot) → at n ≡ Some spot → has_number m n ≡ true

-- at one number this is kept now, and at all others what was
pub record IsKept (before next : Held) (n : ℕ) (spot : Option Spot) : Type 0 where
  pub here : next n ≡ spot
  pub others : (k : ℕ) → (k ≡ n → ⊥) → next k ≡ before k

-- it is kept under this name in the directory with this number
abbrev pub is_child : ℕ → List ℕ → Option Spot → Bool
is_child dir name None = false
is_child dir name (Some spot) = not (spot.node.number == 0) && spot.parent == dir && pointwise nat_eq spot.name name

-- the first that is
abbrev pub child : List (Option Spot) → ℕ → List ℕ → Option Spot
child [] dir name = None
child (spot ∷ spots) dir name = if is_child dir name spot then spot else child spots dir name

abbrev pub node_in : Option Spot → Option Node
node_in spot = option_map (λ (s : Spot). s.node) spot

-- where a path leads to from a node on
abbrev pub walk : List (Option Spot) → Option Node → Path → Option Node
walk spots at [] = at
walk spots None (name ∷ path) = None
walk spots (Some node) (name ∷ path) = walk spots (node_in (child spots node.number name)) path

-- the map that has at each path what the path leads to from the root on; there is one at most
abbrev pub Seen : List (Option Spot) → Type 0
Seen spots = (nodes : Nodes) × ((path : Path) → fin.get nodes path ≡ walk spots (node_in (held spots 0)) path)

pub Seen-prop : (spots : List (Option Spot)) → IsProp (Seen spots)
Seen-prop spots a b =
    Σ_prop_path (λ m. Π_prop (λ p. Coded-set (coded_option node.the_row.coded) _ _))
    (fin.same_map (lists_total nat_list_cmp_total)
    (fin.slice_cmp-IsAntisymmetric (fin.slice_cmp-IsAntisymmetric fin.nat_cmp-IsAntisymmetric))
    a.0 b.0 (λ p. a.1 p ∙ sym (b.1 p)))
