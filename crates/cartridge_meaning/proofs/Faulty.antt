-- An index agrees, or a fault of it is told.
use Rattle.std.proofs.Common.{◌≡◌, ◌⊎◌, ⊎_elim, ℕ, ◌+◌, ◌≤◌, ◌<◌, ◌^◌, List, length, inl, inr, refl, subst, arith}
use Rattle.std.proofs.lemmas.Bool.{cases_lt}
use Rattle.std.proofs.lemmas.Option.{slice_get_within}
use Rattle.tape_types.specs.Bounds.{longest_file}
use Rattle.index_model.specs.declared.faults.Fault.{Fault}
use Rattle.index_model.specs.declared.faults.Fault.TheVariants as faults
use Rattle.index_model.specs.declared.indexes.Index.{Index}
use Rattle.index_model.specs.declared.nodes.NodeKind.{NodeKind}
use Rattle.index_model.specs.declared.nodes.NodeKind.TheVariants as kinds
use Rattle.index_model.specs.declared.nodes.Node.{Node}
use Rattle.index_model.specs.declared.nodes.RawExtent.{RawExtent}
use Rattle.index_model.specs.Extents.{Covers, EndsTooFar, HasOverlap, IsBadFile, IsFileAt, IsOutOfBounds, Overlap}
use Rattle.tape_types.specs.declared.node_keys.xattrs.Xattr.{Xattr}
use Rattle.index_model.specs.Keys.{AreKeysApart, HasKeyTwice}
use Rattle.index_model.specs.Names.{AreNamesApart, HasTakenName, HaveOneName}
use Rattle.index_model.specs.Places.{IsFirst}
use Rattle.index_model.specs.Refusals.{IsToldOf}
use Rattle.index_model.specs.Uids.{AreUids, HasBadUid, IsTakenUid}
use Rattle.index_model.specs.Valid.{Agrees}
use Rattle.index_model.proofs.NoFault.{files_are, names_are, uids_are}
use Rattle.cartridge_meaning.proofs.Known.{AtPlace, Known, first_below, known_at, known_both, known_by, known_either, known_eq, known_in, known_lt, known_not, known_text, some_below}

-- ---- UIDs

known_taken : (nodes : List Node) (at uid : ℕ) → Known (IsTakenUid nodes at uid)
known_taken nodes at uid =
    known_by (λ h. record { earlier = h.0; before = h.1; node = h.2.0; is = h.2.1; same = h.2.2 }) (λ t. (t.earlier, t.before, (t.node, t.is, t.same)))
    (some_below (λ k. AtPlace nodes k (λ node. node.uid ≡ uid)) (λ k. known_at nodes k (λ node. node.uid ≡ uid) (λ node. known_eq node.uid uid)) at)

known_bad_uid : (highest : ℕ) (nodes : List Node) (at : ℕ) → Known (HasBadUid highest nodes at)
known_bad_uid highest nodes at =
    known_by (λ h. record { node = h.0; is = h.1; bad = h.2 }) (λ b. (b.node, b.is, b.bad))
    (known_at nodes at (λ node. (node.uid ≡ 0) ⊎ (IsTakenUid nodes at node.uid ⊎ (highest < node.uid)))
    (λ node. known_either (known_eq node.uid 0) (known_either (known_taken nodes at node.uid) (known_lt highest node.uid))))

-- ---- names

known_one_name : (nodes : List Node) (at other : ℕ) → Known (HaveOneName nodes at other)
known_one_name nodes at other =
    known_by
    (λ h. record { behind_root = h.0; other_behind_root = h.1; node = h.2.0; is = h.2.1; named = h.2.2.0; other_is = h.2.2.1; parent = h.2.2.2.0; name = h.2.2.2.1 })
    (λ t. (t.behind_root, t.other_behind_root, (t.node, t.is, (t.named, t.other_is, (t.parent, t.name)))))
    (known_three (known_lt 0 at) (known_lt 0 other)
    (known_at nodes at (λ node. AtPlace nodes other (λ named. (node.parent ≡ named.parent) × (node.name ≡ named.name)))
    (λ node. known_at nodes other (λ named. (node.parent ≡ named.parent) × (node.name ≡ named.name))
    (λ named. known_both (known_eq node.parent named.parent) (known_text node.name named.name)))))
  where
    known_three : {P Q R : Type 0} → Known P → Known Q → Known R → Known (P × Q × R)
    known_three p q r = known_by (λ h. (h.0, h.1.0, h.1.1)) (λ h. (h.0, (h.1, h.2))) (known_both p (known_both q r))

known_taken_name : (nodes : List Node) (at : ℕ) → Known (HasTakenName nodes at)
known_taken_name nodes at =
    known_by (λ h. record { earlier = h.0; before = h.1; taken = h.2 }) (λ t. (t.earlier, t.before, t.taken))
    (some_below (λ k. HaveOneName nodes k at) (λ k. known_one_name nodes k at) at)

-- ---- keys

-- of these two attributes, of which this is the later, the keys are the same
abbrev KeyAgain : List Xattr → ℕ → ℕ → Type 0
KeyAgain xs later earlier = AtPlace xs earlier (λ one. AtPlace xs later (λ other. one.key ≡ other.key))

known_keys : (xs : List Xattr) → Known ((later : ℕ) × (later < length xs) × ((earlier : ℕ) × (earlier < later) × KeyAgain xs later earlier))
known_keys xs =
    some_below (λ later. (earlier : ℕ) × (earlier < later) × KeyAgain xs later earlier)
    (λ later. some_below (KeyAgain xs later) (λ earlier.
    known_at xs earlier (λ one. AtPlace xs later (λ other. one.key ≡ other.key))
    (λ one. known_at xs later (λ other. one.key ≡ other.key) (λ other. known_text one.key other.key))) later) (length xs)

known_key_twice : (nodes : List Node) (at : ℕ) → Known (HasKeyTwice nodes at)
known_key_twice nodes at =
    known_by
    (λ h. record {
      node = h.0;
      is = h.1;
      earlier = h.2.2.0;
      later = h.2.0;
      two = h.2.2.1;
      one = h.2.2.2.0;
      one_is = h.2.2.2.1;
      other = h.2.2.2.2.0;
      other_is = h.2.2.2.2.1;
      same = h.2.2.2.2.2;
    })
    (λ t. (
      t.node,
      t.is,
      (t.later, slice_get_within t.node.xattrs t.later t.other t.other_is, (t.earlier, t.two, (t.one, t.one_is, (t.other, t.other_is, t.same)))),
    ))
    (known_at nodes at (λ node. (later : ℕ) × (later < length node.xattrs) × ((earlier : ℕ) × (earlier < later) × KeyAgain node.xattrs later earlier)) (λ node. known_keys node.xattrs))

-- ---- files

known_kind : (kind : NodeKind) (Q : ℕ → List RawExtent → Type 0) → ((bytes : ℕ) (es : List RawExtent) → Known (Q bytes es))
    → Known ((bytes : ℕ) × (es : List RawExtent) × (kind ≡ kinds.File bytes es) × Q bytes es)
known_kind kinds.Dir Q known = inr (λ h. let wrong : kinds.Dir ≡ kinds.File h.0 h.1 = h.2 in cc)
known_kind (kinds.Link text) Q known = inr (λ h. let wrong : kinds.Link text ≡ kinds.File h.0 h.1 = h.2 in cc)
known_kind (kinds.File bytes es) Q known = ⊎_elim
    (λ q. inl (bytes, es, refl, q))
    (λ none. inr (λ h.
    let sizes : h.0 ≡ bytes = (let both : kinds.File bytes es ≡ kinds.File h.0 h.1 = h.2 in cc) in
    let lists : h.1 ≡ es = (let both : kinds.File bytes es ≡ kinds.File h.0 h.1 = h.2 in cc) in
    none (subst (λ (n : ℕ). Q n es) sizes (subst (λ (l : List RawExtent). Q h.0 l) lists h.3))))
    (known bytes es)

-- a file at a place of which something holds
abbrev FileAt : List Node → ℕ → (ℕ → List RawExtent → Type 0) → Type 0
FileAt nodes at Q = (bytes : ℕ) × (es : List RawExtent) × IsFileAt nodes at bytes es × Q bytes es

known_file : (nodes : List Node) (at : ℕ) (Q : ℕ → List RawExtent → Type 0) → ((bytes : ℕ) (es : List RawExtent) → Known (Q bytes es)) → Known (FileAt nodes at Q)
known_file nodes at Q known =
    known_by
    (λ h. (h.2.0, h.2.1, record { node = h.0; is = h.1; file = h.2.2 }, h.2.3))
    (λ h. (h.2.node, h.2.is, (h.0, h.1, h.2.file, h.3)))
    (known_at nodes at (λ node. (bytes : ℕ) × (es : List RawExtent) × (node.kind ≡ kinds.File bytes es) × Q bytes es) (λ node. known_kind node.kind Q known))

known_far : (es : List RawExtent) → Known (EndsTooFar es)
known_far es =
    known_by (λ h. record { at = h.0; extent = h.1.0; is = h.1.1; far = h.1.2 }) (λ f. (f.at, (f.extent, f.is, f.far)))
    (known_in es (λ e. 2 ^ 62 < e.offset + e.count) (λ e. known_lt (2 ^ 62) (e.offset + e.count)))

-- two extents share the greater of their offsets, where they share one
known_shared : (one two : RawExtent) → Known ((offset : ℕ) × Covers one offset × Covers two offset)
known_shared one two = ⊎_elim
    (λ less. known_by
    (λ h. (two.offset, record { from = omega (arith, less); until = h.0 }, record { from = omega arith; until = h.1 }))
    (λ h. (omega (arith, h.1.until, h.2.from), omega (arith, h.2.from, h.2.until)))
    (known_both (known_lt two.offset (one.offset + one.count)) (known_lt two.offset (two.offset + two.count))))
    (λ more. known_by
    (λ h. (one.offset, record { from = omega arith; until = h.0 }, record { from = more; until = h.1 }))
    (λ h. (omega (arith, h.1.from, h.1.until), omega (arith, h.1.from, h.2.until)))
    (known_both (known_lt one.offset (one.offset + one.count)) (known_lt one.offset (two.offset + two.count))))
    (cases_lt one.offset two.offset)

-- some two of them do, of which this is the later
abbrev OverlapAt : List RawExtent → ℕ → ℕ → Type 0
OverlapAt es later earlier = AtPlace es earlier (λ one. AtPlace es later (λ two. (offset : ℕ) × Covers one offset × Covers two offset))

known_overlap : (es : List RawExtent) → Known (Overlap es)
known_overlap es =
    known_by
    (λ h. record {
      earlier = h.2.0;
      later = h.0;
      two = h.2.1;
      offset = h.2.2.2.2.0;
      shared = record { one = h.2.2.0; is = h.2.2.1; covers = h.2.2.2.2.1; two = h.2.2.2.0; other_is = h.2.2.2.1; other_covers = h.2.2.2.2.2 };
    })
    (λ o. (
      o.later,
      slice_get_within es o.later o.shared.two o.shared.other_is,
      (o.earlier, o.two, (o.shared.one, o.shared.is, (o.shared.two, o.shared.other_is, (o.offset, o.shared.covers, o.shared.other_covers)))),
    ))
    (some_below (λ later. (earlier : ℕ) × (earlier < later) × OverlapAt es later earlier)
    (λ later. some_below (OverlapAt es later) (λ earlier.
    known_at es earlier (λ one. AtPlace es later (λ two. (offset : ℕ) × Covers one offset × Covers two offset))
    (λ one. known_at es later (λ two. (offset : ℕ) × Covers one offset × Covers two offset) (λ two. known_shared one two))) later) (length es))

known_out : (nodes : List Node) (at : ℕ) → Known (IsOutOfBounds nodes at)
known_out nodes at =
    known_by (λ h. record { bytes = h.0; extents = h.1; file = h.2; out = h.3 }) (λ o. (o.bytes, o.extents, o.file, o.out))
    (known_file nodes at (λ bytes es. (longest_file < bytes) ⊎ EndsTooFar es) (λ bytes es. known_either (known_lt longest_file bytes) (known_far es)))

known_overlapped : (nodes : List Node) (at : ℕ) → Known (HasOverlap nodes at)
known_overlapped nodes at =
    known_by (λ h. record { bytes = h.0; extents = h.1; file = h.2; overlap = h.3 }) (λ o. (o.bytes, o.extents, o.file, o.overlap))
    (known_file nodes at (λ bytes es. Overlap es) (λ bytes es. known_overlap es))

known_bad_file : (nodes : List Node) (at : ℕ) → Known (IsBadFile nodes at)
known_bad_file nodes at = known_either (known_out nodes at) (known_overlapped nodes at)

-- ---- the first test that fails

module _ (index : Index) where
  abbrev pub Verdict : Type 0
  Verdict = Agrees index ⊎ ((a : Fault) × IsToldOf index a)

  bad_file : AreUids index.highest index.nodes → AreNamesApart index.nodes → AreKeysApart index.nodes → (at : ℕ) → IsFirst (IsBadFile index.nodes) at → Known (IsOutOfBounds index.nodes at) → Verdict
  bad_file uids names keys at first (inl out) =
      inr (faults.Extent out.file.node.uid, record { at = at; bad = record { uids = uids; names = names; keys = keys; first = first; told = record { node = out.file.node; is = out.file.is; same = refl } }; out = out })
  bad_file uids names keys at first (inr within) = by first.here
    where
      by : IsBadFile index.nodes at → Verdict
      by (inl out) = absurd (within out)
      by (inr over) =
          inr (faults.Overlap over.file.node.uid, record { at = at; bad = record { uids = uids; names = names; keys = keys; first = first; told = record { node = over.file.node; is = over.file.is; same = refl } }; within = within; overlap = over })

  place_of : (at : ℕ) → IsBadFile index.nodes at → at < length index.nodes
  place_of at (inl out) = slice_get_within index.nodes at out.file.node out.file.is
  place_of at (inr over) = slice_get_within index.nodes at over.file.node over.file.is

  from_keys : AreUids index.highest index.nodes → AreNamesApart index.nodes → AreKeysApart index.nodes → Verdict
  from_keys uids names keys = ⊎_elim
      (λ found. bad_file uids names keys found.0 found.2 (known_out index.nodes found.0))
      (λ none. inl (record { uids = uids; names = names; keys = keys; files = files_are index.nodes (λ at h. none at (place_of at h) h) }))
      (first_below (IsBadFile index.nodes) (known_bad_file index.nodes) (length index.nodes))

  from_names : AreUids index.highest index.nodes → AreNamesApart index.nodes → Verdict
  from_names uids names = ⊎_elim
      (λ found. let h = found.2.here in
      inr (faults.SameKey h.node.uid, record { uids = uids; names = names; at = found.0; first = found.2; told = record { node = h.node; is = h.is; same = refl } }))
      (λ none. from_keys uids names (λ at h. none at (slice_get_within index.nodes at h.node h.is) h))
      (first_below (HasKeyTwice index.nodes) (known_key_twice index.nodes) (length index.nodes))

  from_uids : AreUids index.highest index.nodes → Verdict
  from_uids uids = ⊎_elim
      (λ found. let h = found.2.here.taken in
      inr (faults.SameName h.named.uid, record { uids = uids; at = found.0; first = found.2; told = record { node = h.named; is = h.other_is; same = refl } }))
      (λ none. from_names uids (names_are index.nodes (λ at h. none at (slice_get_within index.nodes at h.taken.named h.taken.other_is) h)))
      (first_below (HasTakenName index.nodes) (known_taken_name index.nodes) (length index.nodes))

  from_others : index.highest ≤ 2 ^ 62 → ((at : ℕ) → HasBadUid index.highest index.nodes at → ⊥) → Verdict
  from_others bounded none = by (known_at index.nodes 0 (λ node. node.uid ≡ 1 → ⊥) (λ node. known_not (known_eq node.uid 1)))
    where
      by : Known (AtPlace index.nodes 0 (λ node. node.uid ≡ 1 → ⊥)) → Verdict
      by (inl wrong) =
          inr (faults.Uid wrong.0.uid, inr (inr (record { bounded = bounded; others = none; wrong = wrong.2; told = record { node = wrong.0; is = wrong.1; same = refl } })))
      by (inr right) =
          from_uids (uids_are index.highest index.nodes bounded none (λ node is. ⊎_elim (λ same. same) (λ other. absurd (right (node, is, other))) (known_eq node.uid 1)))

  from_highest : index.highest ≤ 2 ^ 62 → Verdict
  from_highest bounded = ⊎_elim
      (λ found. let h = found.2.here in
      inr (faults.Uid h.node.uid, inr (inl (record { bounded = bounded; at = found.0; first = found.2; told = record { node = h.node; is = h.is; same = refl } }))))
      (λ none. from_others bounded (λ at h. none at (slice_get_within index.nodes at h.node h.is) h))
      (first_below (HasBadUid index.highest index.nodes) (known_bad_uid index.highest index.nodes) (length index.nodes))

  -- an index agrees, or a fault of it is told
  pub agrees_or_fault : Verdict
  agrees_or_fault = ⊎_elim
      (λ over. inr (faults.Uid index.highest, inl (record { over = over; same = refl })))
      (λ bounded. from_highest bounded)
      (cases_lt (2 ^ 62) index.highest)
