-- An index whose nodes stand in the order of the document tells a value.
use Rattle.std.proofs.Common.{◌≡◌, ℕ, zero, suc, ◌+◌, ◌<◌, ◌≤◌, List, [], ◌∷◌, ◌++◌, length, drop, map, Option, Some, None, ⊎_elim, subst, refl, sym, ap, ◌∙◌, arith}
use Rattle.std.proofs.lemmas.Bool.{cases_lt}
use Rattle.std.proofs.lemmas.List.{append_assoc, append-nil}
use Rattle.std.specs.List.{slice_get}
use Rattle.std.proofs.lemmas.Option.{none-some, same_Some}
use Rattle.index_model.specs.declared.indexes.Index.{Index}
use Rattle.index_model.specs.declared.nodes.NodeKind.{NodeKind}
use Rattle.index_model.specs.declared.nodes.NodeKind.TheVariants as kinds
use Rattle.index_model.specs.declared.nodes.Node.{Node}
use Rattle.index_model.specs.declared.nodes.RawExtent.{RawExtent}
use Rattle.index_model.specs.Order.{AreInOrder, LiesIn}
use Rattle.index_model.specs.Order.LiesIn.{itself, through}
use Rattle.index_model.specs.Places.{IsAt}
use Rattle.index_model.specs.Values.{IndexValue, Nodes, Tells, count, facts_of, listed, value_in, value_of, volume_of}
use Rattle.index_model.specs.Values.Nodes.{no_nodes, directory, file, link}
use Rattle.index_model.proofs.OrderLaws.{parent_within, together}
use Rattle.index_model.proofs.Walks.{same_element}

-- ---- lists by place

drop_nil : {X : Type 0} (at : ℕ) → ◌≡◌ {A = List X} (drop at []) []
drop_nil zero = refl
drop_nil (suc at) = refl

-- behind the last element nothing is left
nothing_left : {X : Type 0} (xs : List X) (at : ℕ) → slice_get xs at ≡ None → drop at xs ≡ []
nothing_left [] at none = drop_nil at
nothing_left (x ∷ xs) zero none = absurd (none-some x (sym none))
nothing_left (x ∷ xs) (suc at) none = nothing_left xs at none

-- what is left from a place on begins with the element there
left_from : {X : Type 0} (xs : List X) (at : ℕ) (x : X) → IsAt xs at x → drop at xs ≡ x ∷ drop (suc at) xs
left_from [] at x is = absurd (none-some x is)
left_from (y ∷ ys) zero x is = ap (λ z. z ∷ ys) (same_Some y x is)
left_from (y ∷ ys) (suc at) x is = left_from ys at x is

within : {X : Type 0} (xs : List X) (at : ℕ) (x : X) → IsAt xs at x → at < length xs
within [] at x is = absurd (none-some x is)
within (y ∷ ys) zero x is = omega arith
within (y ∷ ys) (suc at) x is = omega (arith, within ys at x is)

-- ---- where the parent of a later node stands

lies_above : (nodes : List Node) (at upper : ℕ) → AreInOrder nodes → LiesIn nodes at upper → upper ≤ at
lies_above nodes at upper order (itself same) = omega arith
lies_above nodes at upper order (through same over node behind is way) =
    omega (arith, order.before at node behind is, lies_above nodes node.parent over order way)

-- a later node that is not in this one or below it is in the parent of this one, or above that
steps_up : (nodes : List Node) (order : AreInOrder nodes) (at later : ℕ) (node next : Node) → IsAt nodes at node → IsAt nodes later next → at < later → next.parent < at → next.parent ≤ node.parent
steps_up nodes order at later node next is next_is less above =
    let start : LiesIn nodes later next.parent = through later next.parent next (omega (arith, less)) next_is (itself next.parent) in
    let here = together nodes next.parent at later next order above less next_is start in
    lies_above nodes node.parent next.parent order (parent_within nodes at next.parent node is above here)

-- ---- the nodes of one directory, read from a place on

-- From this place on stand these nodes of the directory at place `parent`, with all that is in them. The node behind
-- them, if there is one, is in a directory further up.
record IsRead (nodes : List Node) (parent at : ℕ) : Type 0 where
  tree : Nodes
  end : ℕ
  counts : end ≡ at + count tree
  told : map value_of (drop at nodes) ≡ listed parent at tree ++ map value_of (drop end nodes)
  up : (node : Node) → IsAt nodes end node → node.parent < parent

-- what can be read from a place on: the node there is in this directory or further up
abbrev CanRead : List Node → ℕ → Type 0
CanRead nodes left = (parent at : ℕ) → 0 < at → length nodes ≤ at + left → ((node : Node) → IsAt nodes at node → node.parent ≤ parent) → IsRead nodes parent at

-- nothing more is read where no node of this directory stands
nothing_read : (nodes : List Node) (parent at : ℕ) → ((node : Node) → IsAt nodes at node → node.parent < parent) → IsRead nodes parent at
nothing_read nodes parent at up = record { tree = no_nodes; end = at; counts = omega arith; told = refl; up = up }

-- the node at a place, and those from the next place on
first_told : (nodes : List Node) (parent at : ℕ) (node : Node) (kind : NodeKind) → IsAt nodes at node → node.parent ≡ parent → node.kind ≡ kind →
    map value_of (drop at nodes) ≡ value_in parent (facts_of node) kind ∷ map value_of (drop (at + 1) nodes)
first_told nodes parent at node kind is in_it same =
    let next : suc at ≡ at + 1 = omega arith in
    ap (λ xs. map value_of xs) (left_from nodes at node is)
    ∙ ap (λ n. value_of node ∷ map value_of (drop n nodes)) next
    ∙ ap (λ p. value_in p (facts_of node) node.kind ∷ map value_of (drop (at + 1) nodes)) in_it
    ∙ ap (λ k. value_in parent (facts_of node) k ∷ map value_of (drop (at + 1) nodes)) same

file_read : (nodes : List Node) (parent at : ℕ) (node : Node) (bytes : ℕ) (extents : List RawExtent) → IsAt nodes at node → node.parent ≡ parent → node.kind ≡ kinds.File bytes extents → IsRead nodes parent (at + 1) → IsRead nodes parent at
file_read nodes parent at node bytes extents is in_it same behind = record {
  tree = file (facts_of node) bytes extents behind.tree;
  end = behind.end;
  counts = omega (arith, behind.counts);
  told = first_told nodes parent at node (kinds.File bytes extents) is in_it same ∙ ap (λ xs. value_in parent (facts_of node) (kinds.File bytes extents) ∷ xs) behind.told;
  up = behind.up;
}

link_read : (nodes : List Node) (parent at : ℕ) (node : Node) (text : List ℕ) → IsAt nodes at node → node.parent ≡ parent → node.kind ≡ kinds.Link text → IsRead nodes parent (at + 1) → IsRead nodes parent at
link_read nodes parent at node text is in_it same behind = record {
  tree = link (facts_of node) text behind.tree;
  end = behind.end;
  counts = omega (arith, behind.counts);
  told = first_told nodes parent at node (kinds.Link text) is in_it same ∙ ap (λ xs. value_in parent (facts_of node) (kinds.Link text) ∷ xs) behind.told;
  up = behind.up;
}

directory_read : (nodes : List Node) (parent at : ℕ) (node : Node) → IsAt nodes at node → node.parent ≡ parent → node.kind ≡ kinds.Dir → (inside : IsRead nodes at (at + 1)) → IsRead nodes parent inside.end → IsRead nodes parent at
directory_read nodes parent at node is in_it same inside behind =
    let within = listed at (at + 1) inside.tree in
    let after = map value_of (drop behind.end nodes) in
    let placed = ap (λ n. listed parent n behind.tree ++ after) inside.counts in
    let parts : map value_of (drop (at + 1) nodes) ≡ within ++ listed parent (at + 1 + count inside.tree) behind.tree ++ after =
    inside.told
    ∙ ap (λ xs. within ++ xs) (behind.told ∙ placed)
    ∙ sym (append_assoc within (listed parent (at + 1 + count inside.tree) behind.tree) after) in
    record {
      tree = directory (facts_of node) inside.tree behind.tree;
      end = behind.end;
      counts = omega (arith, inside.counts, behind.counts);
      told = first_told nodes parent at node kinds.Dir is in_it same ∙ ap (λ xs. value_in parent (facts_of node) kinds.Dir ∷ xs) parts;
      up = behind.up;
    }

-- the node behind one that is no directory is in the same directory or further up
behind_leaf : (nodes : List Node) (order : AreInOrder nodes) (at : ℕ) (node next : Node) → IsAt nodes at node → IsAt nodes (at + 1) next → (node.kind ≡ kinds.Dir → ⊥) → next.parent ≤ node.parent
behind_leaf nodes order at node next is next_is leaf =
    let before = order.before (at + 1) next (omega arith) next_is in
    ⊎_elim
    (λ less. steps_up nodes order at (at + 1) node next is next_is (omega arith) less)
    (λ more.
    let here : next.parent ≡ at = omega (arith, before, more) in
    let found = order.dirs (at + 1) next next_is in
    let also : IsAt nodes at found.node = subst (λ n. IsAt nodes n found.node) here found.is in
    absurd (leaf (ap (λ n. n.kind) (same_element nodes at node found.node is also) ∙ found.dir)))
    (cases_lt next.parent at)

file_is_leaf : (node : Node) (bytes : ℕ) (extents : List RawExtent) → node.kind ≡ kinds.File bytes extents → node.kind ≡ kinds.Dir → ⊥
file_is_leaf node bytes extents e d = cc

link_is_leaf : (node : Node) (text : List ℕ) → node.kind ≡ kinds.Link text → node.kind ≡ kinds.Dir → ⊥
link_is_leaf node text e d = cc

-- one more place can be read
module _ (nodes : List Node) (order : AreInOrder nodes) (left : ℕ) (more : CanRead nodes left) (parent at : ℕ) (behind_root : 0 < at) (long : length nodes ≤ at + suc left) where
  behind_read : (node : Node) → IsAt nodes at node → node.parent ≡ parent → (node.kind ≡ kinds.Dir → ⊥) → IsRead nodes parent (at + 1)
  behind_read node is in_it leaf =
      more parent (at + 1) (omega arith) (omega (arith, long)) (λ next next_is. omega (arith, in_it, behind_leaf nodes order at node next is next_is leaf))

  inside_read : IsRead nodes at (at + 1)
  inside_read = more at (at + 1) (omega arith) (omega (arith, long)) (λ next next_is. omega (arith, order.before (at + 1) next (omega arith) next_is))

  behind_directory_read : (node : Node) → IsAt nodes at node → node.parent ≡ parent → (inside : IsRead nodes at (at + 1)) → IsRead nodes parent inside.end
  behind_directory_read node is in_it inside =
      let less : at < inside.end = omega (arith, inside.counts) in
      more parent inside.end (omega (arith, less)) (omega (arith, long, less))
      (λ next next_is. omega (arith, in_it, steps_up nodes order at inside.end node next is next_is less (inside.up next next_is)))

  kind_read : (node : Node) (kind : NodeKind) → IsAt nodes at node → node.parent ≡ parent → node.kind ≡ kind → IsRead nodes parent at
  kind_read node kinds.Dir is in_it same = directory_read nodes parent at node is in_it same inside_read (behind_directory_read node is in_it inside_read)
  kind_read node (kinds.File bytes extents) is in_it same = file_read nodes parent at node bytes extents is in_it same (behind_read node is in_it (file_is_leaf node bytes extents same))
  kind_read node (kinds.Link text) is in_it same = link_read nodes parent at node text is in_it same (behind_read node is in_it (link_is_leaf node text same))

  node_read : (node : Node) → IsAt nodes at node → node.parent ≤ parent → IsRead nodes parent at
  node_read node is most =
      ⊎_elim
      (λ less. nothing_read nodes parent at (λ other other_is. subst (λ n. n.parent < parent) (same_element nodes at node other is other_is) less))
      (λ least. kind_read node node.kind is (omega (arith, most, least)) refl)
      (cases_lt node.parent parent)

  place_read : (here : Option Node) → slice_get nodes at ≡ here → ((node : Node) → IsAt nodes at node → node.parent ≤ parent) → IsRead nodes parent at
  place_read None e most = nothing_read nodes parent at (λ node is. absurd (none-some node (sym e ∙ is)))
  place_read (Some node) e most = node_read node e (most node e)

read : (nodes : List Node) → AreInOrder nodes → (left : ℕ) → CanRead nodes left
read nodes order zero parent at behind_root long most = nothing_read nodes parent at (λ node is. absurd (omega (arith, long, within nodes at node is)))
read nodes order (suc left) parent at behind_root long most = place_read nodes order left (read nodes order left) parent at behind_root long (slice_get nodes at) refl most

-- ---- the whole index

all_read : (nodes : List Node) (order : AreInOrder nodes) (tree : IsRead nodes 0 1) (here : Option Node) → slice_get nodes tree.end ≡ here → drop tree.end nodes ≡ []
all_read nodes order tree None e = nothing_left nodes tree.end e
all_read nodes order tree (Some node) e = absurd (omega (arith, tree.up node e))

-- an index in the order of the document tells a value
pub some_value : (index : Index) → AreInOrder index.nodes → (v : IndexValue) × Tells index v
some_value index order =
    let nodes = index.nodes in
    let root = order.root in
    let tree = read nodes order (length nodes) 0 1 (omega arith) (omega arith) (λ node is. omega (arith, order.before 1 node (omega arith) is)) in
    let rest : map value_of (drop 1 nodes) ≡ listed 0 1 tree.tree =
    tree.told
    ∙ ap (λ xs. listed 0 1 tree.tree ++ map value_of xs) (all_read nodes order tree (slice_get nodes tree.end) refl)
    ∙ append-nil (listed 0 1 tree.tree) in
    let value : IndexValue = record { volume = volume_of index; root = facts_of root; inside = tree.tree } in (
      value,
      record {
        volume = refl;
        nodes = first_told nodes 0 0 root kinds.Dir order.first order.is_root.parent order.is_root.dir ∙ ap (λ xs. value_in 0 (facts_of root) kinds.Dir ∷ xs) rest;
      },
    )
