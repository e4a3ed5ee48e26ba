-- One fault is told of an index, and none where its nodes agree.
use Rattle.std.proofs.Common.{◌≡◌, ℕ, ◌+◌, ◌≤◌, ◌^◌, List, inl, inr, ⊎_elim, subst, refl, sym, ap, ◌∙◌, arith}
use Rattle.std.proofs.lemmas.Bool.{cases_lt}
use Rattle.index_model.specs.declared.indexes.Index.{Index}
use Rattle.index_model.specs.declared.nodes.Node.{Node}
use Rattle.index_model.specs.Extents.{AreFiles, HasOverlap, IsBadFile, IsOutOfBounds}
use Rattle.index_model.specs.Names.{AreNamesApart, HasTakenName}
use Rattle.index_model.specs.Places.{IsAt, IsFirst}
use Rattle.index_model.specs.Refusals.{IsFirstBadFile, IsTold, IsToldOf, RefusesExtent, RefusesOverlap, RefusesUid}
use Rattle.index_model.specs.declared.faults.Fault.{Fault}
use Rattle.index_model.specs.declared.faults.Fault.TheVariants as faults
use Rattle.index_model.specs.Uids.{AreUids, HasBadUid}
use Rattle.index_model.specs.Valid.{Agrees}
use Rattle.index_model.proofs.Walks.{all_at, same_element}

first_same : (P : ℕ → Type 0) (i j : ℕ) → IsFirst P i → IsFirst P j → i ≡ j
first_same P i j f g =
    ⊎_elim
    (λ less. absurd (g.none_before i less f.here))
    (λ more. ⊎_elim (λ less. absurd (f.none_before j less g.here)) (λ even. omega (arith, more, even)) (cases_lt j i))
    (cases_lt i j)

told_same : (nodes : List Node) (i j u v : ℕ) → i ≡ j → IsTold nodes i u → IsTold nodes j v → u ≡ v
told_same nodes i j u v e a b =
    let same = same_element nodes j a.node b.node (subst (λ k. IsAt nodes k a.node) e a.is) b.is in
    sym a.same ∙ ap (λ n. n.uid) same ∙ b.same

bad_uid : (highest : ℕ) (nodes : List Node) (at : ℕ) → AreUids highest nodes → HasBadUid highest nodes at → ⊥
bad_uid highest nodes at right h =
    elim h.bad [
      | inl none ↦ omega (arith, none, right.least at h.node h.is)
      | inr more ↦ elim more [
        | inl taken ↦ omega (arith, taken.before, right.apart taken.earlier at taken.node h.node taken.is h.is taken.same)
        | inr over ↦ omega (arith, over, right.most at h.node h.is)
      ]
    ]

refused_uid : (index : Index) (n : ℕ) → AreUids index.highest index.nodes → RefusesUid index n → ⊥
refused_uid index n right h =
    elim h [
      | inl over ↦ omega (arith, over.over, right.bounded)
      | inr rest ↦ elim rest [
        | inl found ↦ bad_uid index.highest index.nodes found.at right found.first.here
        | inr root ↦ root.wrong (sym root.told.same ∙ right.root root.told.node root.told.is)
      ]
    ]

same_uid : (index : Index) (m n : ℕ) → RefusesUid index m → RefusesUid index n → m ≡ n
same_uid index m n (inl a) (inl b) = sym a.same ∙ b.same
same_uid index m n (inl a) (inr (inl b)) = absurd (omega (arith, a.over, b.bounded))
same_uid index m n (inl a) (inr (inr b)) = absurd (omega (arith, a.over, b.bounded))
same_uid index m n (inr (inl a)) (inl b) = absurd (omega (arith, b.over, a.bounded))
same_uid index m n (inr (inl a)) (inr (inl b)) = told_same index.nodes a.at b.at m n (first_same _ a.at b.at a.first b.first) a.told b.told
same_uid index m n (inr (inl a)) (inr (inr b)) = absurd (b.others a.at a.first.here)
same_uid index m n (inr (inr a)) (inl b) = absurd (omega (arith, b.over, a.bounded))
same_uid index m n (inr (inr a)) (inr (inl b)) = absurd (a.others b.at b.first.here)
same_uid index m n (inr (inr a)) (inr (inr b)) = told_same index.nodes 0 0 m n refl a.told b.told

taken_name_no : (nodes : List Node) (at : ℕ) → AreNamesApart nodes → HasTakenName nodes at → ⊥
taken_name_no nodes at apart h = omega (arith, h.before, apart h.earlier at h.taken)

out_no : (nodes : List Node) (at : ℕ) → AreFiles nodes → IsOutOfBounds nodes at → ⊥
out_no nodes at right h =
    elim h.out [
      | inl long ↦ omega (arith, long, right.size at h.bytes h.extents h.file)
      | inr far ↦ omega (arith, far.far, all_at (λ e. e.offset + e.count ≤ 2 ^ 62) h.extents (right.ends at h.bytes h.extents h.file) far.at far.extent far.is)
    ]

overlap_no : (nodes : List Node) (at : ℕ) → AreFiles nodes → HasOverlap nodes at → ⊥
overlap_no nodes at right h =
    let o = h.overlap in
    omega (arith, o.two, right.apart at h.bytes h.extents h.file o.earlier o.later o.offset o.shared)

bad_file : (nodes : List Node) (at : ℕ) → AreFiles nodes → IsBadFile nodes at → ⊥
bad_file nodes at right (inl out) = out_no nodes at right out
bad_file nodes at right (inr overlap) = overlap_no nodes at right overlap

same_file : (index : Index) (i j m n : ℕ) → IsFirstBadFile index i m → IsFirstBadFile index j n → (i ≡ j) × (m ≡ n)
same_file index i j m n a b =
    let e = first_same _ i j a.first b.first in
    (e, told_same index.nodes i j m n e a.told b.told)

apart_kinds : (index : Index) (m n : ℕ) → RefusesExtent index m → RefusesOverlap index n → ⊥
apart_kinds index m n a b =
    let e = same_file index a.at b.at m n a.bad b.bad in
    b.within (subst (IsOutOfBounds index.nodes) e.0 a.out)

-- one fault at most is told of an index
pub one_fault : (index : Index) (a b : Fault) → IsToldOf index a → IsToldOf index b → a ≡ b
one_fault index (faults.Uid m) (faults.Uid n) h k = ap faults.Uid (same_uid index m n h k)
one_fault index (faults.Uid m) (faults.SameName n) h k = absurd (refused_uid index m k.uids h)
one_fault index (faults.Uid m) (faults.SameKey n) h k = absurd (refused_uid index m k.uids h)
one_fault index (faults.Uid m) (faults.Extent n) h k = absurd (refused_uid index m k.bad.uids h)
one_fault index (faults.Uid m) (faults.Overlap n) h k = absurd (refused_uid index m k.bad.uids h)
one_fault index (faults.SameName m) (faults.Uid n) h k = absurd (refused_uid index n h.uids k)
one_fault index (faults.SameName m) (faults.SameName n) h k = ap faults.SameName (told_same index.nodes h.at k.at m n (first_same _ h.at k.at h.first k.first) h.told k.told)
one_fault index (faults.SameName m) (faults.SameKey n) h k = absurd (taken_name_no index.nodes h.at k.names h.first.here)
one_fault index (faults.SameName m) (faults.Extent n) h k = absurd (taken_name_no index.nodes h.at k.bad.names h.first.here)
one_fault index (faults.SameName m) (faults.Overlap n) h k = absurd (taken_name_no index.nodes h.at k.bad.names h.first.here)
one_fault index (faults.SameKey m) (faults.Uid n) h k = absurd (refused_uid index n h.uids k)
one_fault index (faults.SameKey m) (faults.SameName n) h k = absurd (taken_name_no index.nodes k.at h.names k.first.here)
one_fault index (faults.SameKey m) (faults.SameKey n) h k = ap faults.SameKey (told_same index.nodes h.at k.at m n (first_same _ h.at k.at h.first k.first) h.told k.told)
one_fault index (faults.SameKey m) (faults.Extent n) h k = absurd (k.bad.keys h.at h.first.here)
one_fault index (faults.SameKey m) (faults.Overlap n) h k = absurd (k.bad.keys h.at h.first.here)
one_fault index (faults.Extent m) (faults.Uid n) h k = absurd (refused_uid index n h.bad.uids k)
one_fault index (faults.Extent m) (faults.SameName n) h k = absurd (taken_name_no index.nodes k.at h.bad.names k.first.here)
one_fault index (faults.Extent m) (faults.SameKey n) h k = absurd (h.bad.keys k.at k.first.here)
one_fault index (faults.Extent m) (faults.Extent n) h k = ap faults.Extent (same_file index h.at k.at m n h.bad k.bad).1
one_fault index (faults.Extent m) (faults.Overlap n) h k = absurd (apart_kinds index m n h k)
one_fault index (faults.Overlap m) (faults.Uid n) h k = absurd (refused_uid index n h.bad.uids k)
one_fault index (faults.Overlap m) (faults.SameName n) h k = absurd (taken_name_no index.nodes k.at h.bad.names k.first.here)
one_fault index (faults.Overlap m) (faults.SameKey n) h k = absurd (h.bad.keys k.at k.first.here)
one_fault index (faults.Overlap m) (faults.Extent n) h k = absurd (apart_kinds index n m k h)
one_fault index (faults.Overlap m) (faults.Overlap n) h k = ap faults.Overlap (same_file index h.at k.at m n h.bad k.bad).1

-- of an index whose parts agree no fault is told
pub agrees_no_fault : (index : Index) (a : Fault) → IsToldOf index a → ¬ Agrees index
agrees_no_fault index (faults.Uid n) h right = refused_uid index n right.uids h
agrees_no_fault index (faults.SameName n) h right = taken_name_no index.nodes h.at right.names h.first.here
agrees_no_fault index (faults.SameKey n) h right = right.keys h.at h.first.here
agrees_no_fault index (faults.Extent n) h right = bad_file index.nodes h.at right.files h.bad.first.here
agrees_no_fault index (faults.Overlap n) h right = bad_file index.nodes h.at right.files h.bad.first.here
