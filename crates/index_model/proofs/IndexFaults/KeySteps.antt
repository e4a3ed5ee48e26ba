-- What the searches know of the keys so far.
use Rattle.std.proofs.Common.{◌≡◌, ℕ, ◌+◌, ◌<◌, ◌≤◌, List, [], length, true, false, Bor, inl, inr, refl, sym, ap, subst, ◌∙◌, arith}
use Rattle.std.proofs.lemmas.Bool.{cases_lt}
use Rattle.std.proofs.lemmas.Cmp.{nat_list_cmp_total, tied_itself}
use Rattle.std.proofs.lemmas.Option.{slice_get_within}
use Rattle.std.specs.BTreeMap.{is_at}
use Rattle.std.specs.BTreeSet.{BTreeSet, contains, Updates}
use Rattle.std.specs.Cmp.Lexicographic.{slice_cmp}
use Rattle.std.specs.FinMap.{nat_cmp-IsAntisymmetric, slice_cmp-IsAntisymmetric}
use Rattle.std.specs.Ordering.{nat_cmp}
use Rattle.std.specs.declared.cmp.Ordering.{Ordering}
use Rattle.std.specs.declared.cmp.Ordering.TheVariants.{Less}
use Rattle.tape_types.proofs.NodeKeys.SortLemmas.{tied}
use Rattle.tape_types.specs.declared.node_keys.xattrs.Xattr.{Xattr}
use Rattle.index_model.specs.declared.nodes.Node.{Node}
use Rattle.index_model.specs.Keys.{HasKeyTwice}
use Rattle.index_model.specs.Places.{IsAt}
use Rattle.index_model.proofs.Walks.{same_element}
use Rattle.index_model.specs.IndexFaults.Firsts.{IsAgain, IsNowhereBefore, IsToldFirst, TellsTwice}
use Rattle.index_model.proofs.IndexFaults.Firsts.{before_more, false_true, nowhere, told_first}
use Rattle.index_model.proofs.IndexFaults.Keys.{Knows, knows_more, knows_none}
use Rattle.index_model.proofs.IndexFaults.RisingNames.{IsUpTo, not_below, up_to_itself, up_to_more}

-- behind the last attribute no key stands again
none_behind : (xs : List Xattr) (at : ℕ) → IsNowhereBefore (IsAgain xs) at → length xs ≤ at → (k : ℕ) → IsAgain xs k → ⊥
none_behind xs at fine all = nowhere (IsAgain xs) at (λ k h. omega (arith, all, slice_get_within xs k h.other h.other_is)) fine

-- ---- keys that ascend

-- no key stands again before this place, and the one directly before it is the greatest so far
pub record Ascends (xs : List Xattr) (at : ℕ) : Type 0 where
  pub fine : IsNowhereBefore (IsAgain xs) at
  pub most : (place below : ℕ) (x last : Xattr) → place ≤ below → below + 1 ≡ at → IsAt xs place x → IsAt xs below last → IsUpTo x.key last.key

module _ (xs : List Xattr) where
  -- the first key has none before it that it could repeat
  pub ascends_at_first : Ascends xs 1
  ascends_at_first = record {
    fine = λ before less h. omega (arith, less, h.before);
    most = λ place below x last up next is last_is.
        let here : place ≡ below = omega (arith, up, next) in
        up_to_itself x.key last.key (ap (λ k. k.key) (same_element xs below x last (subst (λ k. IsAt xs k x) here is) last_is));
  }

  -- where all keys ascend, none stands again
  pub ascends_end : (at : ℕ) → Ascends xs at → length xs ≤ at → (k : ℕ) → IsAgain xs k → ⊥
  ascends_end at kept all = none_behind xs at kept.fine all

  module _ (at below : ℕ) (kept : Ascends xs at) (next : below + 1 ≡ at) (last new : Xattr) (last_is : IsAt xs below last) (new_is : IsAt xs at new) (less : slice_cmp nat_cmp last.key new.key ≡ Less) where
    up : (place : ℕ) (x : Xattr) → place < at → IsAt xs place x → IsUpTo x.key last.key
    up place x before is = kept.most place below x last (omega (arith, before, next)) next is last_is

    not_again : IsAgain xs at → ⊥
    not_again h =
        let key : h.one.key ≡ new.key = h.same ∙ ap (λ k. k.key) (same_element xs at h.other new h.other_is new_is) in
        not_below new.key last.key less (subst (λ k. IsUpTo k last.key) key (up h.earlier h.one h.before h.one_is))

    most_more : (place top : ℕ) (x z : Xattr) → place ≤ top → top + 1 ≡ at + 1 → IsAt xs place x → IsAt xs top z → IsUpTo x.key z.key
    most_more place top x z within after is z_is =
        let top_is : top ≡ at = omega (arith, after) in
        let z_new : new ≡ z = same_element xs at new z new_is (subst (λ k. IsAt xs k z) top_is z_is) in
        subst (λ k. IsUpTo x.key k.key) z_new
        (elim (cases_lt place at) [
          | inl lower ↦ up_to_more x.key last.key new.key (up place x lower is) less
          | inr higher ↦
              let here : place ≡ at = omega (arith, higher, within, top_is) in
              up_to_itself x.key new.key (ap (λ k. k.key) (same_element xs at x new (subst (λ k. IsAt xs k x) here is) new_is))
        ])

    -- a key above the last one is passed
    pub ascends_more : Ascends xs (at + 1)
    ascends_more = record { fine = before_more (IsAgain xs) at kept.fine not_again; most = most_more }

-- ---- keys in any order

abbrev pub slot_cmp : Bor (List ℕ) → Bor (List ℕ) → Ordering
slot_cmp a b = slice_cmp nat_cmp a.now b.now

-- an attribute before this place has this key
pub record IsThere (xs : List Xattr) (at : ℕ) (key : Bor (List ℕ)) : Type 0 where
  pub earlier : ℕ
  pub before : earlier < at
  pub one : Xattr
  pub is : IsAt xs earlier one
  pub key_is : one.key ≡ key.now

-- no key stands again before this place, and the set has those that stand there
pub record IsKept (xs : List Xattr) (seen : BTreeSet (Bor (List ℕ))) (at : ℕ) : Type 0 where
  pub fine : IsNowhereBefore (IsAgain xs) at
  pub knows : Knows (contains slot_cmp seen) (IsThere xs at)

key_is_same : (a b : Bor (List ℕ)) → is_at (slot_cmp a) b ≡ true → a.now ≡ b.now
key_is_same a b at = slice_cmp-IsAntisymmetric nat_cmp-IsAntisymmetric a.now b.now (tied _ at)

key_itself : (a b : Bor (List ℕ)) → a.now ≡ b.now → is_at (slot_cmp a) b ≡ true
key_itself a b same = rw (same, tied_itself nat_list_cmp_total b.now) refl

module _ (xs : List Xattr) where
  -- before the first key the set is empty
  pub begin : (seen : BTreeSet (Bor (List ℕ))) → seen.keys ≡ [] → IsKept xs seen 0
  begin seen none = record {
    fine = λ before less. absurd (omega (arith, less));
    knows = knows_none slot_cmp seen (IsThere xs 0) none (λ key t. omega (arith, t.before));
  }

  -- once all keys are passed, none stands again
  pub end : (seen : BTreeSet (Bor (List ℕ))) (at : ℕ) → IsKept xs seen at → length xs ≤ at → (k : ℕ) → IsAgain xs k → ⊥
  end seen at kept all = none_behind xs at kept.fine all

  module _ (seen : BTreeSet (Bor (List ℕ))) (at : ℕ) (kept : IsKept xs seen at) (new : Xattr) (is : IsAt xs at new) (key : Bor (List ℕ)) (key_is : key.now ≡ new.key) where
    -- a key that the set has already stands again
    pub again_here : contains slot_cmp seen key ≡ true → IsAgain xs at
    again_here has =
        let t = kept.knows.found key has in
        record { earlier = t.earlier; before = t.before; one = t.one; one_is = t.is; other = new; other_is = is; same = t.key_is ∙ key_is }

    free_here : contains slot_cmp seen key ≡ false → IsAgain xs at → ⊥
    free_here free h =
        let same = same_element xs at h.other new h.other_is is in
        let there : IsThere xs at key = record { earlier = h.earlier; before = h.before; one = h.one; is = h.one_is; key_is = h.same ∙ ap (λ k. k.key) same ∙ sym key_is } in
        false_true (sym free ∙ kept.knows.there key there)

    stays : (k : Bor (List ℕ)) → IsThere xs at k → IsThere xs (at + 1) k
    stays k t = record { earlier = t.earlier; before = omega (arith, t.before); one = t.one; is = t.is; key_is = t.key_is }

    is_later : (k : Bor (List ℕ)) → is_at (slot_cmp key) k ≡ true → IsThere xs (at + 1) k
    is_later k here = record { earlier = at; before = omega arith; one = new; is = is; key_is = sym key_is ∙ key_is_same key k here }

    was_there : (k : Bor (List ℕ)) → is_at (slot_cmp key) k ≡ false → IsThere xs (at + 1) k → IsThere xs at k
    was_there k other t =
        elim (cases_lt t.earlier at) [
          | inl less ↦ record { earlier = t.earlier; before = less; one = t.one; is = t.is; key_is = t.key_is }
          | inr more ↦
              let here : t.earlier ≡ at = omega (arith, more, t.before) in
              let same = same_element xs at t.one new (subst (λ k. IsAt xs k t.one) here t.is) is in
              absurd (false_true (sym other ∙ key_itself key k (key_is ∙ sym (ap (λ n. n.key) same) ∙ t.key_is)))
        ]

    -- a key that the set has not is passed and put in the set
    pub step : (next : BTreeSet (Bor (List ℕ))) → contains slot_cmp seen key ≡ false → Updates slot_cmp seen next key true → IsKept xs next (at + 1)
    step next free put = record {
      fine = before_more (IsAgain xs) at kept.fine (free_here free);
      knows = knows_more slot_cmp seen next key (IsThere xs at) (IsThere xs (at + 1)) put kept.knows stays is_later was_there;
    }

-- ---- the nodes

module _ (nodes : List Node) (at : ℕ) (none : IsNowhereBefore (HasKeyTwice nodes) at) (node : Node) (is : IsAt nodes at node) where
  -- a node with a key twice, the first such, is the one to tell
  pub twice_here : TellsTwice node.xattrs true → IsToldFirst (HasKeyTwice nodes) nodes node.uid
  twice_here h =
      let a = h.1 in
      told_first (HasKeyTwice nodes) nodes at node.uid node none
      record { node = node; is = is; earlier = a.earlier; later = h.0; two = a.before; one = a.one; one_is = a.one_is; other = a.other; other_is = a.other_is; same = a.same }
      is refl

  -- a node without a key twice is passed
  pub none_here : TellsTwice node.xattrs false → IsNowhereBefore (HasKeyTwice nodes) (at + 1)
  none_here apart = before_more (HasKeyTwice nodes) at none
      (λ h.
      let same = ap (λ n. n.xattrs) (same_element nodes at h.node node h.is is) in
      apart h.later record {
        earlier = h.earlier;
        before = h.two;
        one = h.one;
        one_is = subst (λ xs. IsAt xs h.earlier h.one) same h.one_is;
        other = h.other;
        other_is = subst (λ xs. IsAt xs h.later h.other) same h.other_is;
        same = h.same;
      })

-- once all nodes are passed, none has a key twice
pub nodes_end : (nodes : List Node) (at : ℕ) → IsNowhereBefore (HasKeyTwice nodes) at → length nodes ≤ at → (k : ℕ) → HasKeyTwice nodes k → ⊥
nodes_end nodes at none all = nowhere (HasKeyTwice nodes) at (λ k h. omega (arith, all, slice_get_within nodes k h.node h.is)) none
