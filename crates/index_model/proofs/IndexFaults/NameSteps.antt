-- What a loop knows of the names so far.
use Rattle.std.proofs.Common.{◌≡◌, ℕ, ◌+◌, ◌<◌, ◌≤◌, List, [], length, true, false, inl, inr, refl, sym, ap, subst, ◌∙◌, arith}
use Rattle.std.proofs.lemmas.Bool.{cases_lt}
use Rattle.std.specs.BTreeMap.{is_at}
use Rattle.std.specs.BTreeSet.{BTreeSet, contains, Updates}
use Rattle.std.specs.Ordering.{nat_cmp, ordering_then, is_eq}
use Rattle.std.specs.declared.cmp.Ordering.{Ordering}
use Rattle.std.specs.declared.cmp.Ordering.TheVariants.{Less, Equal, Greater}
use Rattle.std.specs.FinMap.{nat_cmp-IsAntisymmetric, slice_cmp-IsAntisymmetric}
use Rattle.std.proofs.lemmas.Cmp.{nat_cmp_total, nat_list_cmp_total, tied_itself}
use Rattle.std.specs.Cmp.Lexicographic.{slice_cmp}
use Rattle.std.proofs.Common.{Bor}
use Rattle.index_model.specs.declared.nodes.Node.{Node}
use Rattle.index_model.specs.Places.{IsAt}
use Rattle.index_model.specs.Names.{HasTakenName}
use Rattle.index_model.proofs.Walks.{same_element}
use Rattle.index_model.specs.IndexFaults.Firsts.{IsNowhereBefore, IsToldFirst}
use Rattle.index_model.specs.IndexFaults.Digest.{digest}
use Rattle.index_model.proofs.IndexFaults.Firsts.{before_more, false_true, nowhere, told_first}
use Rattle.std.proofs.lemmas.Option.{slice_get_within}
use Rattle.tape_types.proofs.NodeKeys.SortLemmas.{tied}
use Rattle.index_model.proofs.IndexFaults.Keys.{Knows, knows_more, knows_none}

-- a node before this place, and not the root, has this parent and this name
pub record IsTakenSlot (nodes : List Node) (at parent : ℕ) (name : List ℕ) : Type 0 where
  pub earlier : ℕ
  pub behind_root : 0 < earlier
  pub before : earlier < at
  pub node : Node
  pub is : IsAt nodes earlier node
  pub parent_is : node.parent ≡ parent
  pub name_is : node.name ≡ name

-- the number that stands for a name, the place of the directory, the name
abbrev pub Slot : Type 0
Slot = ℕ × ℕ × Bor (List ℕ)

abbrev pub slot_cmp : Slot → Slot → Ordering
slot_cmp a b = ordering_then (ordering_then (nat_cmp a.0 b.0) (nat_cmp a.1 b.1)) (slice_cmp nat_cmp a.2.now b.2.now)

-- a node before this place, and not the root, has this name in this directory
pub record IsTaken (nodes : List Node) (at : ℕ) (slot : Slot) : Type 0 where
  pub number : slot.0 ≡ digest slot.2.now
  pub taken : IsTakenSlot nodes at slot.1 slot.2.now

-- no name is taken before this place, and the set has those that stand there
pub record IsKept (nodes : List Node) (seen : BTreeSet Slot) (at : ℕ) : Type 0 where
  pub behind_root : 0 < at
  pub fine : IsNowhereBefore (HasTakenName nodes) at
  pub knows : Knows (contains slot_cmp seen) (IsTaken nodes at)

-- slots that compare as equal have all parts equal
slot_is : (a b : Slot) → is_at (slot_cmp a) b ≡ true → (a.0 ≡ b.0) × (a.1 ≡ b.1) × (a.2.now ≡ b.2.now)
slot_is a b at =
    let both = then_equal (ordering_then (nat_cmp a.0 b.0) (nat_cmp a.1 b.1)) (slice_cmp nat_cmp a.2.now b.2.now) (tied _ at) in
    let front = then_equal (nat_cmp a.0 b.0) (nat_cmp a.1 b.1) both.0 in
    (nat_cmp-IsAntisymmetric a.0 b.0 front.0, nat_cmp-IsAntisymmetric a.1 b.1 front.1, slice_cmp-IsAntisymmetric nat_cmp-IsAntisymmetric a.2.now b.2.now both.1)
  where
    then_equal : (o p : Ordering) → ordering_then o p ≡ Equal → (o ≡ Equal) × (p ≡ Equal)
    then_equal Less p e = absurd (false_true (ap is_eq e))
    then_equal Equal p e = (refl, e)
    then_equal Greater p e = absurd (false_true (ap is_eq e))

slot_itself : (a b : Slot) → a.0 ≡ b.0 → a.1 ≡ b.1 → a.2.now ≡ b.2.now → is_at (slot_cmp a) b ≡ true
slot_itself a b number parent name = rw (number, parent, name, tied_itself nat_cmp_total b.0, tied_itself nat_cmp_total b.1, tied_itself nat_list_cmp_total b.2.now) refl

module _ (nodes : List Node) where
  -- behind the root the set of taken names is empty
  pub begin : (seen : BTreeSet Slot) → seen.keys ≡ [] → IsKept nodes seen 1
  begin seen none = record {
    behind_root = omega arith;
    fine = λ before less h. omega (arith, less, h.before);
    knows = knows_none slot_cmp seen (IsTaken nodes 1) none (λ slot t. omega (arith, t.taken.behind_root, t.taken.before));
  }

  -- once all nodes are passed, no name is taken
  pub end : (seen : BTreeSet Slot) (at : ℕ) → IsKept nodes seen at → length nodes ≤ at → (k : ℕ) → HasTakenName nodes k → ⊥
  end seen at kept all = nowhere (HasTakenName nodes) at (λ k h. omega (arith, all, slice_get_within nodes k h.taken.named h.taken.other_is)) kept.fine

  module _ (seen : BTreeSet Slot) (at : ℕ) (kept : IsKept nodes seen at) (node : Node) (is : IsAt nodes at node) (slot : Slot) (number : slot.0 ≡ digest slot.2.now) (parent : slot.1 ≡ node.parent) (name : slot.2.now ≡ node.name) where
    -- a node whose name the set has for its directory is the first with a taken name
    pub taken_here : contains slot_cmp seen slot ≡ true → IsToldFirst (HasTakenName nodes) nodes node.uid
    taken_here has =
        let t = (kept.knows.found slot has).taken in
        told_first (HasTakenName nodes) nodes at node.uid node kept.fine
        record {
          earlier = t.earlier;
          before = t.before;
          taken = record {
            behind_root = t.behind_root;
            other_behind_root = kept.behind_root;
            node = t.node;
            is = t.is;
            named = node;
            other_is = is;
            parent = t.parent_is ∙ parent;
            name = t.name_is ∙ name;
          };
        }
        is refl

    -- the name is free, so it isn't that of an earlier node
    free_here : contains slot_cmp seen slot ≡ false → HasTakenName nodes at → ⊥
    free_here free h =
        let same = same_element nodes at h.taken.named node h.taken.other_is is in
        let taken : IsTaken nodes at slot = record {
          number = number;
          taken = record {
            earlier = h.earlier;
            behind_root = h.taken.behind_root;
            before = h.before;
            node = h.taken.node;
            is = h.taken.is;
            parent_is = h.taken.parent ∙ ap (λ n. n.parent) same ∙ sym parent;
            name_is = h.taken.name ∙ ap (λ n. n.name) same ∙ sym name;
          };
        } in
        false_true (sym free ∙ kept.knows.there slot taken)

    stays : (k : Slot) → IsTaken nodes at k → IsTaken nodes (at + 1) k
    stays k t = record {
      number = t.number;
      taken = record {
        earlier = t.taken.earlier;
        behind_root = t.taken.behind_root;
        before = omega (arith, t.taken.before);
        node = t.taken.node;
        is = t.taken.is;
        parent_is = t.taken.parent_is;
        name_is = t.taken.name_is;
      };
    }

    is_later : (k : Slot) → is_at (slot_cmp slot) k ≡ true → IsTaken nodes (at + 1) k
    is_later k here =
        let same = slot_is slot k here in
        record {
          number = sym same.0 ∙ number ∙ ap digest same.2;
          taken = record {
            earlier = at;
            behind_root = kept.behind_root;
            before = omega arith;
            node = node;
            is = is;
            parent_is = sym parent ∙ same.1;
            name_is = sym name ∙ same.2;
          };
        }

    was_taken : (k : Slot) → is_at (slot_cmp slot) k ≡ false → IsTaken nodes (at + 1) k → IsTaken nodes at k
    was_taken k other t =
        elim (cases_lt t.taken.earlier at) [
          | inl less ↦ record {
            number = t.number;
            taken = record {
              earlier = t.taken.earlier;
              behind_root = t.taken.behind_root;
              before = less;
              node = t.taken.node;
              is = t.taken.is;
              parent_is = t.taken.parent_is;
              name_is = t.taken.name_is;
            };
          }
          | inr more ↦
              let here : t.taken.earlier ≡ at = omega (arith, more, t.taken.before) in
              let same = same_element nodes at t.taken.node node (subst (λ k. IsAt nodes k t.taken.node) here t.taken.is) is in
              let name_same : slot.2.now ≡ k.2.now = name ∙ sym (ap (λ n. n.name) same) ∙ t.taken.name_is in
              absurd (false_true (sym other ∙ slot_itself slot k (number ∙ ap digest name_same ∙ sym t.number) (parent ∙ sym (ap (λ n. n.parent) same) ∙ t.taken.parent_is) name_same))
        ]

    -- a name that the set has not for its directory is passed and put in the set
    pub step : (new : BTreeSet Slot) → contains slot_cmp seen slot ≡ false → Updates slot_cmp seen new slot true → IsKept nodes new (at + 1)
    step new free put = record {
      behind_root = omega arith;
      fine = before_more (HasTakenName nodes) at kept.fine (free_here free);
      knows = knows_more slot_cmp seen new slot (IsTaken nodes at) (IsTaken nodes (at + 1)) put kept.knows stays is_later was_taken;
    }
