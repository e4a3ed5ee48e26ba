-- The list of the nodes of a value stands in the order of the document.
use Rattle.std.proofs.Common.{◌≡◌, ℕ, zero, suc, ◌+◌, ◌<◌, ◌≤◌, List, [], ◌∷◌, ◌++◌, length, drop, map, ⊎_elim, refl, sym, ap, subst, ◌∙◌, arith}
use Rattle.std.proofs.lemmas.Bool.{cases_lt}
use Rattle.std.proofs.lemmas.List.{append_assoc, append-nil, length-map}
use Rattle.std.proofs.lemmas.Option.{none-some}
use Rattle.index_model.specs.declared.nodes.NodeKind.{NodeKind}
use Rattle.index_model.specs.declared.nodes.NodeKind.TheVariants as kinds
use Rattle.index_model.specs.declared.nodes.Node.{Node}
use Rattle.index_model.specs.Order.{AreInOrder, IsDirAt, LiesIn}
use Rattle.index_model.specs.Order.LiesIn.{itself, through}
use Rattle.index_model.specs.Places.{IsAt}
use Rattle.index_model.specs.Values.{IndexValue, NodeFacts, NodeValue, Nodes, no_nodes, directory, file, link, all_nodes, count, listed, value_in, value_of}
use Rattle.index_model.proofs.Walks.{same_element}
use Rattle.index_read.proofs.Nodes.{length_listed}

-- ---- lists by place

-- where what is left tells a node and others, the node stands there, and the others are left behind it
record Begins (nodes : List Node) (at : ℕ) (x : NodeValue) (xs : List NodeValue) : Type 0 where
  node : Node
  is : IsAt nodes at node
  value : value_of node ≡ x
  rest : map value_of (drop (at + 1) nodes) ≡ xs

begins : (nodes : List Node) (at : ℕ) (x : NodeValue) (xs : List NodeValue) → map value_of (drop at nodes) ≡ x ∷ xs → Begins nodes at x xs
begins [] zero x xs e = absurd (let bad : [] ≡ x ∷ xs = e in cc)
begins [] (suc at) x xs e = absurd (let bad : [] ≡ x ∷ xs = e in cc)
begins (node ∷ nodes) zero x xs e =
    let first : value_of node ≡ x = cc (e) in
    let rest : map value_of nodes ≡ xs = cc (e) in
    record { node = node; is = refl; value = first; rest = rest }
begins (node ∷ nodes) (suc at) x xs e =
    let h = begins nodes at x xs e in
    let next : suc at + 1 ≡ suc (at + 1) = omega arith in
    record { node = h.node; is = h.is; value = h.value; rest = ap (λ (n : ℕ). map value_of (drop n (node ∷ nodes))) next ∙ h.rest }

within : {X : Type 0} (xs : List X) (at : ℕ) (x : X) → IsAt xs at x → at < length xs
within [] at x is = absurd (none-some x is)
within (y ∷ ys) zero x is = omega arith
within (y ∷ ys) (suc at) x is = omega (arith, within ys at x is)

-- ---- where a node may stand

-- the node before a place lies in this directory
abbrev LiesBefore : List Node → ℕ → ℕ → Type 0
LiesBefore nodes at upper = (earlier : ℕ) → suc earlier ≡ at → LiesIn nodes earlier upper

-- the node at a place stands in order: behind its directory, and behind a node that lies there
record IsPlaced (nodes : List Node) (at : ℕ) (node : Node) : Type 0 where
  before : node.parent < at
  dir : IsDirAt nodes node.parent
  together : LiesBefore nodes at node.parent

lies_further : (nodes : List Node) (a b c : ℕ) → LiesIn nodes a b → LiesIn nodes b c → LiesIn nodes a c
lies_further nodes a b c (itself at) h = h
lies_further nodes a b c (through at upper node behind is way) h = through at c node behind is (lies_further nodes _ b c way h)

-- the nodes from a place up to another stand in order, and then others are left
record IsStanding (nodes : List Node) (parent at size : ℕ) (rest : List NodeValue) : Type 0 where
  end : ℕ
  counts : end ≡ at + size
  left : map value_of (drop end nodes) ≡ rest
  each : (k : ℕ) (node : Node) → at ≤ k → k < end → IsAt nodes k node → IsPlaced nodes k node
  last : LiesBefore nodes end parent

-- the first of them is told, in a directory that stands before it
module _ (nodes : List Node) (parent at : ℕ) (f : NodeFacts) (kind : NodeKind) (xs : List NodeValue) (first : Begins nodes at (value_in parent f kind) xs) (below : parent < at) (dir : IsDirAt nodes parent) (before : LiesBefore nodes at parent) where
  in_it : first.node.parent ≡ parent
  in_it = ap (λ (n : NodeValue). n.parent) first.value

  of_kind : first.node.kind ≡ kind
  of_kind = ap (λ (n : NodeValue). n.kind) first.value

  lies_there : LiesIn nodes at parent
  lies_there = through at parent first.node (omega (arith, below)) first.is (subst (λ (p : ℕ). LiesIn nodes p parent) (sym in_it) (itself parent))

  first_placed : (k : ℕ) (node : Node) → k ≡ at → IsAt nodes k node → IsPlaced nodes k node
  first_placed k node e is =
      let there : IsAt nodes at node = subst (λ (n : ℕ). IsAt nodes n node) e is in
      let parents : parent ≡ node.parent = sym in_it ∙ ap (λ (n : Node). n.parent) (same_element nodes at first.node node first.is there) in
      record {
        before = omega (arith, below, parents, e);
        dir = subst (IsDirAt nodes) parents dir;
        together = λ earlier next. subst (LiesIn nodes earlier) parents (before earlier (next ∙ e));
      }

  before_next : LiesBefore nodes (at + 1) parent
  before_next earlier next =
      let same : at ≡ earlier = omega (arith, next) in
      subst (λ (n : ℕ). LiesIn nodes n parent) same lies_there

  -- a node with none in it, and those behind it
  leaf_standing : (size : ℕ) (rest : List NodeValue) → IsStanding nodes parent (at + 1) size rest → IsStanding nodes parent at (1 + size) rest
  leaf_standing size rest behind = record {
    end = behind.end;
    counts = omega (arith, behind.counts);
    left = behind.left;
    each = λ k node from until is. ⊎_elim (λ less. first_placed k node (omega (arith, from, less)) is) (λ more. behind.each k node more until is) (cases_lt k (at + 1));
    last = behind.last;
  }

  -- a directory, those in it, and those behind it
  dir_standing : (inner size : ℕ) (rest left : List NodeValue) (inside : IsStanding nodes at (at + 1) inner left) → IsStanding nodes parent inside.end size rest → IsStanding nodes parent at (1 + (inner + size)) rest
  dir_standing inner size rest left inside behind = record {
    end = behind.end;
    counts = omega (arith, inside.counts, behind.counts);
    left = behind.left;
    each = λ k node from until is.
        ⊎_elim (λ less. first_placed k node (omega (arith, from, less)) is) (λ more.
        ⊎_elim (λ less. inside.each k node more less is) (λ most. behind.each k node most until is) (cases_lt k inside.end)) (cases_lt k (at + 1));
    last = behind.last;
  }

  -- the node before those that are behind a directory lies in the directory, and so where that does
  before_behind : (end : ℕ) → LiesBefore nodes end at → LiesBefore nodes end parent
  before_behind end last earlier next = lies_further nodes earlier at parent (last earlier next) lies_there

-- ---- the nodes of a directory and all that is in them

standing : (tree : Nodes) (nodes : List Node) (parent at : ℕ) (rest : List NodeValue) → map value_of (drop at nodes) ≡ listed parent at tree ++ rest → parent < at → IsDirAt nodes parent → LiesBefore nodes at parent → IsStanding nodes parent at (count tree) rest
standing no_nodes nodes parent at rest told below dir before = record {
  end = at;
  counts = omega arith;
  left = told;
  each = λ k node from until is. absurd (omega (arith, from, until));
  last = before;
}
standing (directory f inside behind) nodes parent at rest told below dir before =
    let within = listed at (at + 1) inside in
    let after = listed parent (at + 1 + count inside) behind in
    let first = begins nodes at (value_in parent f kinds.Dir) ((within ++ after) ++ rest) told in
    let here : IsDirAt nodes at = record { node = first.node; is = first.is; dir = of_kind nodes parent at f kinds.Dir _ first below dir before } in
    let inner = standing inside nodes at (at + 1) (after ++ rest) (first.rest ∙ append_assoc within after rest) (omega arith) here (λ earlier next. let same : at ≡ earlier = omega (arith, next) in subst (λ (n : ℕ). LiesIn nodes n at) same (itself at)) in
    let left : map value_of (drop inner.end nodes) ≡ listed parent inner.end behind ++ rest = inner.left ∙ ap (λ (n : ℕ). listed parent n behind ++ rest) (sym inner.counts) in
    let less : parent < inner.end = omega (arith, below, inner.counts) in
    let last = before_behind nodes parent at f kinds.Dir _ first below dir before inner.end inner.last in
    dir_standing nodes parent at f kinds.Dir _ first below dir before (count inside) (count behind) rest (after ++ rest) inner
    (standing behind nodes parent inner.end rest left less dir last)
standing (file f bytes extents behind) nodes parent at rest told below dir before =
    let kind = kinds.File bytes extents in
    let first = begins nodes at (value_in parent f kind) (listed parent (at + 1) behind ++ rest) told in
    leaf_standing nodes parent at f kind _ first below dir before (count behind) rest
    (standing behind nodes parent (at + 1) rest first.rest (omega (arith, below)) dir (before_next nodes parent at f kind _ first below dir before))
standing (link f text behind) nodes parent at rest told below dir before =
    let kind = kinds.Link text in
    let first = begins nodes at (value_in parent f kind) (listed parent (at + 1) behind ++ rest) told in
    leaf_standing nodes parent at f kind _ first below dir before (count behind) rest
    (standing behind nodes parent (at + 1) rest first.rest (omega (arith, below)) dir (before_next nodes parent at f kind _ first below dir before))

-- ---- all nodes

-- the list of nodes of a value has the root and all that is in it
pub listed_length : (nodes : List Node) (v : IndexValue) → map value_of nodes ≡ all_nodes v → length nodes ≡ 1 + count v.inside
listed_length nodes v told = omega (arith, length-map nodes value_of, ap length told, length_listed 0 1 v.inside)

-- the list of nodes of a value is in the order of the document
pub listed_in_order : (nodes : List Node) (v : IndexValue) → map value_of nodes ≡ all_nodes v → AreInOrder nodes
listed_in_order nodes v told =
    let others = listed 0 1 v.inside in
    let first = begins nodes 0 (value_in 0 v.root kinds.Dir) others told in
    let root_parent : first.node.parent ≡ 0 = ap (λ (n : NodeValue). n.parent) first.value in
    let root_kind : first.node.kind ≡ kinds.Dir = ap (λ (n : NodeValue). n.kind) first.value in
    let dir : IsDirAt nodes 0 = record { node = first.node; is = first.is; dir = root_kind } in
    let before : LiesBefore nodes 1 0 = λ earlier next. let same : 0 ≡ earlier = omega (arith, next) in subst (λ (n : ℕ). LiesIn nodes n 0) same (itself 0) in
    let all = standing v.inside nodes 0 1 [] (first.rest ∙ sym (append-nil others)) (omega arith) dir before in
    let size = listed_length nodes v told in
    let placed : (at : ℕ) (node : Node) → 0 < at → IsAt nodes at node → IsPlaced nodes at node = λ at node behind is. all.each at node (omega (arith, behind)) (omega (arith, within nodes at node is, size, all.counts)) is in
    record {
      root = first.node;
      first = first.is;
      is_root = record { parent = root_parent; dir = root_kind };
      before = λ at node behind is. (placed at node behind is).before;
      dirs = λ at node is. by_place nodes first.node root_parent first.is dir (λ n m behind there. (placed n m behind there).dir) at node is;
      together = λ at node is. (placed (suc at) node (omega arith) is).together at refl;
    }
  where
    by_place : (nodes : List Node) (root : Node) → root.parent ≡ 0 → IsAt nodes 0 root → IsDirAt nodes 0 → ((at : ℕ) (node : Node) → 0 < at → IsAt nodes at node → IsDirAt nodes node.parent) → (at : ℕ) (node : Node) → IsAt nodes at node → IsDirAt nodes node.parent
    by_place nodes root e first dir others zero node is =
        let parent : 0 ≡ node.parent = sym e ∙ ap (λ (n : Node). n.parent) (same_element nodes 0 root node first is) in
        subst (IsDirAt nodes) parent dir
    by_place nodes root e first dir others (suc at) node is = others (suc at) node (omega arith) is
