-- An index of which no fault is told agrees.
use Rattle.std.proofs.Common.{◌≡◌, ℕ, zero, suc, ◌+◌, ◌<◌, ◌≤◌, ◌^◌, List, [], ◌∷◌, inl, inr, ⊎_elim, refl, sym, arith}
use Rattle.std.specs.List.{AllByRecursion}
use Rattle.std.proofs.lemmas.Bool.{cases_lt, cases_eq}
use Rattle.tape_types.specs.Bounds.{longest_file}
use Rattle.index_model.specs.declared.indexes.Index.{Index}
use Rattle.index_model.specs.declared.nodes.Node.{Node}
use Rattle.index_model.specs.declared.nodes.RawExtent.{RawExtent}
use Rattle.index_model.specs.Extents.{AreFiles, EndsTooFar, IsBadFile, IsFileAt, IsOutOfBounds, ShareOffset}
use Rattle.index_model.specs.Keys.{AreKeysApart, HasKeyTwice}
use Rattle.index_model.specs.Names.{AreNamesApart, HasTakenName, HaveOneName}
use Rattle.index_model.specs.Places.{IsAt, IsFirst}
use Rattle.index_model.specs.Refusals.{IsFirstBadFile, IsToldOf}
use Rattle.index_model.specs.declared.faults.Fault.{Fault}
use Rattle.index_model.specs.declared.faults.Fault.TheVariants as faults
use Rattle.index_model.specs.Uids.{AreUids, HasBadUid}
use Rattle.index_model.specs.Valid.{Agrees}

not_more : (a b : ℕ) → (b < a → ⊥) → a ≤ b
not_more a b h = ⊎_elim (λ less. absurd (h less)) (λ more. omega (arith, more)) (cases_lt b a)

-- what is first nowhere is nowhere
nowhere : (P : ℕ → Type 0) → ((at : ℕ) → IsFirst P at → ⊥) → (n at : ℕ) → at < n → P at → ⊥
nowhere P none zero at small h = omega (arith, small)
nowhere P none (suc n) at small h =
    none at record { here = h; none_before = λ k less. nowhere P none n k (omega (arith, small, less)) }

never : (P : ℕ → Type 0) → ((at : ℕ) → IsFirst P at → ⊥) → (at : ℕ) → P at → ⊥
never P none at h = nowhere P none (suc at) at (omega arith) h

-- two places that are one, where no two differ in order
same_place : (R : ℕ → ℕ → Type 0) → ((i j : ℕ) → R i j → R j i) → ((i j : ℕ) → i < j → R i j → ⊥) → (i j : ℕ) → R i j → i ≡ j
same_place R turned apart i j h =
    ⊎_elim
    (λ less. absurd (apart i j less h))
    (λ more. ⊎_elim (λ less. absurd (apart j i less (turned i j h))) (λ even. omega (arith, more, even)) (cases_lt j i))
    (cases_lt i j)

-- two nodes with one UID
record HaveOneUid (nodes : List Node) (at other : ℕ) : Type 0 where
  node : Node
  is : IsAt nodes at node
  named : Node
  other_is : IsAt nodes other named
  same : node.uid ≡ named.uid

turned_uid : (nodes : List Node) (i j : ℕ) → HaveOneUid nodes i j → HaveOneUid nodes j i
turned_uid nodes i j h = record { node = h.named; is = h.other_is; named = h.node; other_is = h.is; same = sym h.same }

turned_name : (nodes : List Node) (i j : ℕ) → HaveOneName nodes i j → HaveOneName nodes j i
turned_name nodes i j h = record {
  behind_root = h.other_behind_root;
  other_behind_root = h.behind_root;
  node = h.named;
  is = h.other_is;
  named = h.node;
  other_is = h.is;
  parent = sym h.parent;
  name = sym h.name;
}

turned_share : (extents : List RawExtent) (offset i j : ℕ) → ShareOffset extents i j offset → ShareOffset extents j i offset
turned_share extents offset i j h = record {
  one = h.two;
  is = h.other_is;
  covers = h.other_covers;
  two = h.one;
  other_is = h.is;
  other_covers = h.covers;
}

-- no extent ends too far, from this place on
each_end : (extents : List RawExtent) → (EndsTooFar extents → ⊥) → AllByRecursion (λ e. e.offset + e.count ≤ 2 ^ 62) extents
each_end [] near = tt
each_end (e ∷ extents) near = (
  not_more (e.offset + e.count) (2 ^ 62) (λ far. near record { at = 0; extent = e; is = refl; far = far }),
  each_end extents (λ f. near record { at = suc f.at; extent = f.extent; is = f.is; far = f.far }),
)

-- UIDs of which none is bad are right
module _ (highest : ℕ) (nodes : List Node) (bounded : highest ≤ 2 ^ 62) (none : (at : ℕ) → HasBadUid highest nodes at → ⊥) where
  one_uid : (i j : ℕ) → i < j → HaveOneUid nodes i j → ⊥
  one_uid i j less h =
      none j record { node = h.named; is = h.other_is; bad = inr (inl record { earlier = i; before = less; node = h.node; is = h.is; same = h.same }) }

  -- where the root's UID is 1 and no UID is bad, the UIDs are as they must be
  pub uids_are : ((node : Node) → IsAt nodes 0 node → node.uid ≡ 1) → AreUids highest nodes
  uids_are root = record {
    bounded = bounded;
    least = λ at node is. not_more 1 node.uid (λ less. none at record { node = node; is = is; bad = inl (omega (arith, less)) });
    most = λ at node is. not_more node.uid highest (λ over. none at record { node = node; is = is; bad = inr (inr over) });
    apart = λ at other node named is other_is same. same_place (HaveOneUid nodes) (turned_uid nodes) one_uid at other record { node = node; is = is; named = named; other_is = other_is; same = same };
    root = root;
  }

-- names of which none is taken are apart
pub names_are : (nodes : List Node) → ((at : ℕ) → HasTakenName nodes at → ⊥) → AreNamesApart nodes
names_are nodes none = same_place (HaveOneName nodes) (turned_name nodes) (λ i j less h. none j record { earlier = i; before = less; taken = h })

-- files of which none is bad are right
pub files_are : (nodes : List Node) → ((at : ℕ) → IsBadFile nodes at → ⊥) → AreFiles nodes
files_are nodes none = record {
  size = λ at bytes extents f. not_more bytes longest_file (λ long. none at (inl record { bytes = bytes; extents = extents; file = f; out = inl long }));
  ends = λ at bytes extents f. each_end extents (λ far. none at (inl record { bytes = bytes; extents = extents; file = f; out = inr far }));
  apart = λ at bytes extents f one two offset.
      same_place (λ i j. ShareOffset extents i j offset) (turned_share extents offset)
      (λ i j less h. none at (inr record { bytes = bytes; extents = extents; file = f; overlap = record { earlier = i; later = j; two = less; offset = offset; shared = h } }))
      one two;
}

module _ (index : Index) (none : (a : Fault) → IsToldOf index a → ⊥) where
  bounded : index.highest ≤ 2 ^ 62
  bounded = not_more index.highest (2 ^ 62) (λ over. none (faults.Uid index.highest) (inl record { over = over; same = refl }))

  no_bad_uid : (at : ℕ) → HasBadUid index.highest index.nodes at → ⊥
  no_bad_uid = never (HasBadUid index.highest index.nodes)
      (λ at first. none (faults.Uid first.here.node.uid) (inr (inl record { bounded = bounded; at = at; first = first; told = record { node = first.here.node; is = first.here.is; same = refl } })))

  root_uid : (node : Node) → IsAt index.nodes 0 node → node.uid ≡ 1
  root_uid node is =
      elim (cases_eq node.uid 1) [
        | inl same ↦ same
        | inr wrong ↦ absurd (none (faults.Uid node.uid) (inr (inr record { bounded = bounded; others = no_bad_uid; wrong = wrong; told = record { node = node; is = is; same = refl } })))
      ]

  uids : AreUids index.highest index.nodes
  uids = uids_are index.highest index.nodes bounded no_bad_uid root_uid

  no_taken_name : (at : ℕ) → HasTakenName index.nodes at → ⊥
  no_taken_name = never (HasTakenName index.nodes)
      (λ at first. let h = first.here.taken in none (faults.SameName h.named.uid) record { uids = uids; at = at; first = first; told = record { node = h.named; is = h.other_is; same = refl } })

  names : AreNamesApart index.nodes
  names = names_are index.nodes no_taken_name

  keys : AreKeysApart index.nodes
  keys = never (HasKeyTwice index.nodes)
      (λ at first. let h = first.here in none (faults.SameKey h.node.uid) record { uids = uids; names = names; at = at; first = first; told = record { node = h.node; is = h.is; same = refl } })

  -- the first bad file, where its UID is told
  bad : (at bytes : ℕ) (extents : List RawExtent) → IsFirst (IsBadFile index.nodes) at → (f : IsFileAt index.nodes at bytes extents) → IsFirstBadFile index at f.node.uid
  bad at bytes extents first f = record { uids = uids; names = names; keys = keys; first = first; told = record { node = f.node; is = f.is; same = refl } }

  not_out : (at : ℕ) → IsFirst (IsBadFile index.nodes) at → IsOutOfBounds index.nodes at → ⊥
  not_out at first out = none (faults.Extent out.file.node.uid) record { at = at; bad = bad at out.bytes out.extents first out.file; out = out }

  not_first : (at : ℕ) → IsFirst (IsBadFile index.nodes) at → ⊥
  not_first at first =
      elim first.here [
        | inl out ↦ not_out at first out
        | inr over ↦ none (faults.Overlap over.file.node.uid) record { at = at; bad = bad at over.bytes over.extents first over.file; within = not_out at first; overlap = over }
      ]

  no_bad_file : (at : ℕ) → IsBadFile index.nodes at → ⊥
  no_bad_file = never (IsBadFile index.nodes) not_first

  agrees : Agrees index
  agrees = record { uids = uids; names = names; keys = keys; files = files_are index.nodes no_bad_file }

-- an index of which no fault is told agrees
pub no_fault_agrees : (index : Index) → ((a : Fault) → ¬ IsToldOf index a) → Agrees index
no_fault_agrees index none = agrees index none
