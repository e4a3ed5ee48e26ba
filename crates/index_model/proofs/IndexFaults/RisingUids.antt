-- UIDs that ascend in the order of the document: none is bad.
use Rattle.std.proofs.Common.{◌≡◌, ℕ, ◌+◌, ◌<◌, ◌≤◌, List, length, inl, inr, ap, subst, arith}
use Rattle.std.proofs.lemmas.Bool.{cases_lt}
use Rattle.std.proofs.lemmas.Option.{slice_get_within}
use Rattle.index_model.specs.declared.nodes.Node.{Node}
use Rattle.index_model.specs.Places.{IsAt}
use Rattle.index_model.specs.Uids.{HasBadUid}
use Rattle.index_model.proofs.Walks.{same_element}
use Rattle.index_model.specs.IndexFaults.Firsts.{IsNowhereBefore}
use Rattle.index_model.proofs.IndexFaults.Firsts.{before_more, nowhere}

-- no UID is bad before this place, and none there is above the last
pub record IsKept (highest : ℕ) (nodes : List Node) (last at : ℕ) : Type 0 where
  pub fine : IsNowhereBefore (HasBadUid highest nodes) at
  pub most : (place : ℕ) (node : Node) → place < at → IsAt nodes place node → node.uid ≤ last

module _ (highest : ℕ) (nodes : List Node) where
  -- before the first node no UID is bad
  pub begin : IsKept highest nodes 0 0
  begin = record {
    fine = λ before less. absurd (omega (arith, less));
    most = λ place node less. absurd (omega (arith, less));
  }

  -- once all nodes are passed with UIDs that ascend, no UID is bad
  pub end : (last at : ℕ) → IsKept highest nodes last at → length nodes ≤ at → (k : ℕ) → HasBadUid highest nodes k → ⊥
  end last at kept all = nowhere (HasBadUid highest nodes) at (λ k h. omega (arith, all, slice_get_within nodes k h.node h.is)) kept.fine

  module _ (last at : ℕ) (kept : IsKept highest nodes last at) (node : Node) (is : IsAt nodes at node) (above : last < node.uid) (within : node.uid ≤ highest) where
    fine_here : HasBadUid highest nodes at → ⊥
    fine_here h =
        let uid : h.node.uid ≡ node.uid = ap (λ n. n.uid) (same_element nodes at h.node node h.is is) in
        elim h.bad [
          | inl none ↦ omega (arith, above, uid, none)
          | inr more ↦ elim more [
            | inl taken ↦
                let most = kept.most taken.earlier taken.node taken.before taken.is in
                omega (arith, above, uid, taken.same, most)
            | inr over ↦ omega (arith, uid, over, within)
          ]
        ]

    most_more : (place : ℕ) (n : Node) → place < at + 1 → IsAt nodes place n → n.uid ≤ node.uid
    most_more place n less n_is =
        elim (cases_lt place at) [
          | inl lower ↦ let most = kept.most place n lower n_is in omega (arith, most, above)
          | inr higher ↦
              let here : place ≡ at = omega (arith, higher, less) in
              let same = ap (λ k. k.uid) (same_element nodes at n node (subst (λ k. IsAt nodes k n) here n_is) is) in
              omega (arith, same)
        ]

    -- a UID above the last and up to the highest is passed
    pub step : IsKept highest nodes node.uid (at + 1)
    step = record {
      fine = before_more (HasBadUid highest nodes) at kept.fine fine_here;
      most = most_more;
    }
