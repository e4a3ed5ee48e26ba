-- What a loop knows of the UIDs so far.
use Rattle.std.proofs.Common.{◌≡◌, ◌⊎◌, ℕ, ◌+◌, ◌<◌, ◌≤◌, List, [], length, true, false, inl, inr, refl, sym, ap, subst, ◌∙◌, arith}
use Rattle.std.proofs.lemmas.Bool.{cases_lt}
use Rattle.std.specs.BTreeMap.{is_at}
use Rattle.std.specs.BTreeSet.{BTreeSet, contains, Updates}
use Rattle.std.specs.Ordering.{nat_cmp}
use Rattle.index_model.specs.declared.nodes.Node.{Node}
use Rattle.index_model.specs.Places.{IsAt}
use Rattle.index_model.specs.Uids.{HasBadUid, IsTakenUid}
use Rattle.index_model.proofs.Walks.{same_element}
use Rattle.index_model.specs.IndexFaults.Firsts.{IsNowhereBefore, IsToldFirst}
use Rattle.index_model.proofs.IndexFaults.Firsts.{before_more, false_true, nowhere, told_first}
use Rattle.std.proofs.lemmas.Option.{slice_get_within}
use Rattle.index_model.proofs.IndexFaults.Keys.{Knows, knows_more, knows_none, number_is, number_itself}

-- no UID is bad before this place, and the set has those that stand there
pub record IsKept (highest : ℕ) (nodes : List Node) (seen : BTreeSet ℕ) (at : ℕ) : Type 0 where
  pub fine : IsNowhereBefore (HasBadUid highest nodes) at
  pub knows : Knows (contains nat_cmp seen) (IsTakenUid nodes at)

module _ (highest : ℕ) (nodes : List Node) where
  pub begin : (seen : BTreeSet ℕ) → seen.keys ≡ [] → IsKept highest nodes seen 0
  begin seen none = record {
    fine = λ before less. absurd (omega (arith, less));
    knows = knows_none nat_cmp seen (IsTakenUid nodes 0) none (λ key taken. omega (arith, taken.before));
  }

  -- once all nodes are passed with UIDs in bounds and not taken, none is bad
  pub end : (seen : BTreeSet ℕ) (at : ℕ) → IsKept highest nodes seen at → length nodes ≤ at → (k : ℕ) → HasBadUid highest nodes k → ⊥
  end seen at kept all = nowhere (HasBadUid highest nodes) at (λ k h. omega (arith, all, slice_get_within nodes k h.node h.is)) kept.fine

  module _ (seen : BTreeSet ℕ) (at : ℕ) (kept : IsKept highest nodes seen at) (node : Node) (is : IsAt nodes at node) where
    bad_here : (node.uid ≡ 0) ⊎ (IsTakenUid nodes at node.uid ⊎ (highest < node.uid)) → IsToldFirst (HasBadUid highest nodes) nodes node.uid
    bad_here bad = told_first (HasBadUid highest nodes) nodes at node.uid node kept.fine record { node = node; is = is; bad = bad } is refl

    -- the first node with a UID out of bounds is the one to tell
    pub out_here : (node.uid ≡ 0) ⊎ (highest < node.uid) → IsToldFirst (HasBadUid highest nodes) nodes node.uid
    out_here (inl none) = bad_here (inl none)
    out_here (inr over) = bad_here (inr (inr over))

    -- the first node with a UID that another has is the one to tell
    pub taken_here : contains nat_cmp seen node.uid ≡ true → IsToldFirst (HasBadUid highest nodes) nodes node.uid
    taken_here has = bad_here (inr (inl (kept.knows.found node.uid has)))

    -- a UID that is taken later and isn't this one is taken before
    was_taken : (k : ℕ) → is_at (nat_cmp node.uid) k ≡ false → IsTakenUid nodes (at + 1) k → IsTakenUid nodes at k
    was_taken k other taken =
        elim (cases_lt taken.earlier at) [
          | inl less ↦ record { earlier = taken.earlier; before = less; node = taken.node; is = taken.is; same = taken.same }
          | inr more ↦
              let here : taken.earlier ≡ at = omega (arith, more, taken.before) in
              let same = same_element nodes at taken.node node (subst (λ k. IsAt nodes k taken.node) here taken.is) is in
              absurd (false_true (sym other ∙ number_itself node.uid k (sym (ap (λ n. n.uid) same) ∙ taken.same)))
        ]

    -- the UID is neither out of its bounds nor taken
    fine_here : 1 ≤ node.uid → node.uid ≤ highest → contains nat_cmp seen node.uid ≡ false → HasBadUid highest nodes at → ⊥
    fine_here some most free h =
        let uid : h.node.uid ≡ node.uid = ap (λ n. n.uid) (same_element nodes at h.node node h.is is) in
        elim h.bad [
          | inl none ↦ omega (arith, some, uid, none)
          | inr more ↦ elim more [
            | inl taken ↦ false_true (sym free ∙ kept.knows.there node.uid (subst (IsTakenUid nodes at) uid taken))
            | inr over ↦ omega (arith, uid, over, most)
          ]
        ]

    -- a UID in bounds that the set has not is passed and put in the set
    pub step : (new : BTreeSet ℕ) → 1 ≤ node.uid → node.uid ≤ highest → contains nat_cmp seen node.uid ≡ false → Updates nat_cmp seen new node.uid true → IsKept highest nodes new (at + 1)
    step new some most free put = record {
      fine = before_more (HasBadUid highest nodes) at kept.fine (fine_here some most free);
      knows = knows_more nat_cmp seen new node.uid (IsTakenUid nodes at) (IsTakenUid nodes (at + 1)) put kept.knows
          (λ k taken. record { earlier = taken.earlier; before = omega (arith, taken.before); node = taken.node; is = taken.is; same = taken.same })
          (λ k here. record { earlier = at; before = omega arith; node = node; is = is; same = number_is node.uid k here })
          was_taken;
    }
