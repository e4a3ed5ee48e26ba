-- Names that ascend in each directory in the order of the document: none is taken.
use Rattle.std.proofs.Common.{◌≡◌, ◌≢◌, ◌⊎◌, ℕ, ◌+◌, ◌<◌, ◌≤◌, List, length, get_or, set, replicate, true, false, inl, inr, refl, sym, ap, subst, ◌∙◌, arith, get_or-set_other}
use Rattle.std.proofs.lemmas.Bool.{cases_eq, cases_lt}
use Rattle.std.proofs.lemmas.Cmp.{nat_list_cmp_total, tied_itself, upto}
use Rattle.std.proofs.lemmas.Grind.{get_or_default_zero}
use Rattle.std.proofs.lemmas.List.{get_or-replicate, get_or-set_same, length-replicate, length-set}
use Rattle.std.proofs.lemmas.Option.{slice_get_within}
use Rattle.std.specs.Cmp.Lexicographic.{slice_cmp}
use Rattle.std.specs.Ordering.{nat_cmp, is_gt, is_lt, ordering_reverse}
use Rattle.std.specs.declared.cmp.Ordering.{Ordering}
use Rattle.std.specs.declared.cmp.Ordering.TheVariants.{Less, Equal, Greater}
use Rattle.index_model.specs.declared.nodes.Node.{Node}
use Rattle.index_model.specs.Places.{IsAt}
use Rattle.index_model.specs.Names.{HasTakenName}
use Rattle.index_model.proofs.Walks.{same_element}
use Rattle.index_model.specs.IndexFaults.Firsts.{IsNowhereBefore}
use Rattle.index_model.specs.IndexFaults.Rising.{IsBelow}
use Rattle.index_model.proofs.IndexFaults.Firsts.{before_more, false_true, nowhere}

-- the first text doesn't come behind the second
abbrev pub IsUpTo : List ℕ → List ℕ → Type 0
IsUpTo one two = is_gt (slice_cmp nat_cmp one two) ≡ false

-- at this place, which isn't the root's, stands a node whose name doesn't come before this one
pub record IsOver (nodes : List Node) (top : ℕ) (name : List ℕ) : Type 0 where
  pub behind_root : 0 < top
  pub last : Node
  pub is : IsAt nodes top last
  pub rises : IsUpTo name last.name

-- no name is taken before this place, and of each directory the latest node has the greatest name
pub record IsKept (nodes : List Node) (latest : List ℕ) (at : ℕ) : Type 0 where
  pub long : length latest ≡ length nodes
  pub behind_root : 0 < at
  pub within : (parent : ℕ) → parent < length nodes → get_or latest parent 0 < at
  pub fine : IsNowhereBefore (HasTakenName nodes) at
  pub over : (place : ℕ) (node : Node) → 0 < place → place < at → IsAt nodes place node → IsOver nodes (get_or latest node.parent 0) node.name

-- what `<` tells
pub less_from_test : (o : Ordering) → is_lt o ≡ true → o ≡ Less
less_from_test Less is = refl
less_from_test Equal is = absurd (false_true is)
less_from_test Greater is = absurd (false_true is)

-- a name is not above itself
pub up_to_itself : (name other : List ℕ) → name ≡ other → IsUpTo name other
up_to_itself name other same = rw (same, tied_itself nat_list_cmp_total other) refl

-- a name not above another is not above one that comes after that
pub up_to_more : (one two three : List ℕ) → IsUpTo one two → slice_cmp nat_cmp two three ≡ Less → IsUpTo one three
up_to_more one two three first less = upto nat_list_cmp_total one two three first (ap is_gt less)

-- no name is up to a text that is below it
pub not_below : (name below : List ℕ) → slice_cmp nat_cmp below name ≡ Less → IsUpTo name below → ⊥
not_below name below less up =
    let turned = nat_list_cmp_total.antisymm name below in
    false_true (sym up ∙ ap is_gt (turned ∙ ap ordering_reverse less))

module _ (nodes : List Node) where
  -- behind the root no directory has a latest node
  pub begin : (latest : List ℕ) → latest ≡ replicate (length nodes) 0 → IsKept nodes latest 1
  begin latest zeros = record {
    long = ap length zeros ∙ length-replicate (length nodes) 0;
    behind_root = omega arith;
    within = λ parent less. let e = ap (λ xs. get_or xs parent 0) zeros ∙ get_or-replicate (length nodes) parent 0 0 less in omega (arith, e);
    fine = λ before less h. omega (arith, less, h.before);
    over = λ place node some less. absurd (omega (arith, some, less));
  }

  -- once all nodes are passed with names that ascend, no name is taken
  pub end : (latest : List ℕ) (at : ℕ) → IsKept nodes latest at → length nodes ≤ at → (k : ℕ) → HasTakenName nodes k → ⊥
  end latest at kept all = nowhere (HasTakenName nodes) at (λ k h. omega (arith, all, slice_get_within nodes k h.taken.named h.taken.other_is)) kept.fine

  -- what a test says of the place that was read
  pub next_at : (latest : List ℕ) (at : ℕ) → IsKept nodes latest at → at < length nodes → (parent : ℕ) → parent < at → (name : List ℕ) (read : ℕ) → read ≡ get_or latest parent read → (read ≡ 0) ⊎ IsBelow nodes read name → (get_or latest parent 0 ≡ 0) ⊎ IsBelow nodes (get_or latest parent 0) name
  next_at latest at kept inside parent before name read is next =
      let long = kept.long in
      let less : parent < length latest = omega (arith, long, inside, before) in
      subst (λ k. (k ≡ 0) ⊎ IsBelow nodes k name) (is ∙ get_or_default_zero latest parent read less) next

  module _ (latest : List ℕ) (at : ℕ) (kept : IsKept nodes latest at) (node : Node) (is : IsAt nodes at node) (parent : node.parent < at)
      (next : (get_or latest node.parent 0 ≡ 0) ⊎ IsBelow nodes (get_or latest node.parent 0) node.name) where
    -- an earlier node of the directory has a name below this one's
    earlier_below : (place : ℕ) (n : Node) → 0 < place → place < at → IsAt nodes place n → n.parent ≡ node.parent → (last : Node) × IsUpTo n.name last.name × (slice_cmp nat_cmp last.name node.name ≡ Less)
    earlier_below place n some less n_is same =
        let o = subst (λ p. IsOver nodes (get_or latest p 0) n.name) same (kept.over place n some less n_is) in
        elim next [
          | inl none ↦ absurd (omega (arith, none, o.behind_root))
          | inr below ↦
              let one = same_element nodes (get_or latest node.parent 0) o.last below.node o.is below.is in
              (below.node, subst (λ k. IsUpTo n.name k.name) one o.rises, below.less)
        ]

    fine_here : HasTakenName nodes at → ⊥
    fine_here h =
        let same = same_element nodes at h.taken.named node h.taken.other_is is in
        let b = earlier_below h.earlier h.taken.node h.taken.behind_root h.before h.taken.is (h.taken.parent ∙ ap (λ k. k.parent) same) in
        let name = h.taken.name ∙ ap (λ k. k.name) same in
        not_below node.name b.0.name b.2 (subst (λ t. IsUpTo t b.0.name) name b.1)

    -- the node itself is the latest of its directory
    over_here : (n : Node) → n.parent ≡ node.parent → IsUpTo n.name node.name → IsOver nodes (get_or (set latest node.parent at) n.parent 0) n.name
    over_here n same up =
        let long = kept.long in
        let inside = slice_get_within nodes at node is in
        let less : node.parent < length latest = omega (arith, long, inside, parent) in
        let top : get_or (set latest node.parent at) n.parent 0 ≡ at = rw same (get_or-set_same latest node.parent at 0 less) in
        subst (λ t. IsOver nodes t n.name) (sym top) record { behind_root = kept.behind_root; last = node; is = is; rises = up }

    over_before : (place : ℕ) (n : Node) → 0 < place → place < at → IsAt nodes place n → (n.parent ≡ node.parent) ⊎ (n.parent ≢ node.parent) → IsOver nodes (get_or (set latest node.parent at) n.parent 0) n.name
    over_before place n some less n_is (inl same) =
        let b = earlier_below place n some less n_is same in
        over_here n same (up_to_more n.name b.0.name node.name b.1 b.2)
    over_before place n some less n_is (inr other) =
        subst (λ t. IsOver nodes t n.name) (sym (get_or-set_other latest node.parent n.parent at 0 other)) (kept.over place n some less n_is)

    over_more : (place : ℕ) (n : Node) → 0 < place → place < at + 1 → IsAt nodes place n → IsOver nodes (get_or (set latest node.parent at) n.parent 0) n.name
    over_more place n some less n_is =
        elim (cases_lt place at) [
          | inl lower ↦ over_before place n some lower n_is (cases_eq n.parent node.parent)
          | inr higher ↦
              let here : place ≡ at = omega (arith, higher, less) in
              let same = same_element nodes at n node (subst (λ k. IsAt nodes k n) here n_is) is in
              over_here n (ap (λ k. k.parent) same) (up_to_itself n.name node.name (ap (λ k. k.name) same))
        ]

    within_more : (p : ℕ) → p < length nodes → get_or (set latest node.parent at) p 0 < at + 1
    within_more p less =
        elim (cases_eq p node.parent) [
          | inl same ↦
              let long = kept.long in
              let inside : node.parent < length latest = omega (arith, long, same, less) in
              let top : get_or (set latest node.parent at) p 0 ≡ at = rw same (get_or-set_same latest node.parent at 0 inside) in
              omega (arith, top)
          | inr other ↦
              let top = get_or-set_other latest node.parent p at 0 other in
              let below = kept.within p less in
              omega (arith, top, below)
        ]

    -- a node whose name comes after the latest of its directory is passed and is then the latest
    pub step : IsKept nodes (set latest node.parent at) (at + 1)
    step = record {
      long = length-set latest node.parent at ∙ kept.long;
      behind_root = omega arith;
      within = within_more;
      fine = before_more (HasTakenName nodes) at kept.fine fine_here;
      over = over_more;
    }
