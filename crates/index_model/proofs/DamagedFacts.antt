-- What is told of damaged indexes.
use Rattle.std.proofs.Common.{◌≡◌, ◌⊎◌, ℕ, ◌+◌, ◌<◌, ◌≤◌, ◌^◌, ◌==◌, if◌then◌else◌, List, [], ◌∷◌, codes, inl, inr, subst, refl, sym, ap, ◌∙◌, arith}
use Rattle.std.specs.List.{AllByRecursion}
use Rattle.tape_types.specs.Bounds.{longest_file}
use Rattle.tape_types.specs.declared.moments.Moment.{Moment}
use Rattle.tape_types.specs.declared.moments.Times.{Times}
use Rattle.index_model.specs.declared.nodes.NodeKind.{NodeKind}
use Rattle.index_model.specs.declared.nodes.NodeKind.TheVariants as kinds
use Rattle.index_model.specs.declared.nodes.RawExtent.{RawExtent}
use Rattle.index_model.specs.declared.nodes.Node.{Node}
use Rattle.index_model.specs.Archive.{archive_nodes, hello, index_of, late_node, long_file, node, node_in_file, one_name, shared_byte, touching, two_notes, with_file, with_keys}
use Rattle.index_model.specs.Extents.{AreFiles, Covers, HasOverlap, IsBadFile, IsFileAt, IsOutOfBounds, ShareOffset}
use Rattle.tape_types.specs.declared.node_keys.xattrs.Xattr.{Xattr}
use Rattle.index_model.specs.Keys.{AreKeysApart, HasKeyTwice}
use Rattle.index_model.specs.Names.{AreNamesApart}
use Rattle.index_model.specs.Order.{AreInOrder, LiesIn}
use Rattle.index_model.specs.Order.LiesIn.{through}
use Rattle.index_model.specs.Places.{IsAt}
use Rattle.index_model.specs.Refusals.{IsToldOf}
use Rattle.index_model.specs.declared.faults.Fault.TheVariants as faults
use Rattle.index_model.specs.Uids.{AreUids, HasBadUid}
use Rattle.index_model.proofs.Walks.{each, same_element}

-- a highest UID above 2^62 is told as a fault
pub highest_over : (at : Moment) (times : Times) → IsToldOf (index_of at (2 ^ 62 + 1) (archive_nodes times)) (faults.Uid (2 ^ 62 + 1))
highest_over at times = inl record { over = omega arith; same = refl }

-- the UIDs of the archive are one more than their places
uid_at : (times : Times) (at : ℕ) (n : Node) → IsAt (archive_nodes times) at n → n.uid ≡ at + 1
uid_at times at n is = each (λ k x. x.uid ≡ k + 1) (archive_nodes times) (refl, (refl, (refl, (refl, tt)))) at n is

right_before : (times : Times) (highest at : ℕ) → at < highest → HasBadUid highest (archive_nodes times) at → ⊥
right_before times highest at small h =
    let u = uid_at times at h.node h.is in
    elim h.bad [
      | inl none ↦ omega (arith, u, none)
      | inr more ↦ elim more [
        | inl taken ↦ omega (arith, u, uid_at times taken.earlier taken.node taken.is, taken.same, taken.before)
        | inr over ↦ omega (arith, u, over, small)
      ]
    ]

-- a UID above the highest is told as a fault
pub uid_over : (at : Moment) (times : Times) → IsToldOf (index_of at 3 (archive_nodes times)) (faults.Uid 4)
uid_over at times = inr (inl record {
  bounded = omega arith;
  at = 3;
  first = record {
    here = record { node = _; is = refl; bad = inr (inr (omega arith)) };
    none_before = λ before small h. right_before times 3 before small h;
  };
  told = record { node = _; is = refl; same = refl };
})

-- a node that stands behind its directory's sibling is out of order
pub late : (times : Times) → ¬ AreInOrder (late_node times)
late times order = in_b (order.together 2 _ refl)
  where
    in_root : LiesIn (late_node times) 0 1 → ⊥
    in_root (through at upper n behind is way) = omega (arith, behind)

    in_b : LiesIn (late_node times) 2 1 → ⊥
    in_b (through at upper n behind is way) =
        let same = same_element (late_node times) 2 (node times 0 3 (codes "b") kinds.Dir) n refl is in
        in_root (subst (λ x. LiesIn (late_node times) x.parent 1) (sym same) way)

-- a node inside a file is out of order
pub in_file : (times : Times) → ¬ AreInOrder (node_in_file times)
in_file times order =
    let dir = order.dirs 2 _ refl in
    let same = same_element (node_in_file times) 1 (node times 0 2 (codes "f") (kinds.File 0 [])) dir.node refl dir.is in
    absurd (not_dir (ap (λ n. n.kind) same ∙ dir.dir))
  where
    not_dir : kinds.File 0 [] ≡ kinds.Dir → ⊥
    not_dir e = cc e

-- the UIDs of a root and a file
file_uids : (times : Times) (xs : List Xattr) (kind : NodeKind) → AreUids 2 (with_keys times xs kind)
file_uids times xs kind =
    let nodes = with_keys times xs kind in
    record {
      bounded = omega arith;
      least = λ at n is. omega (arith, uid at n is);
      most = λ at n is. each (λ k x. x.uid ≤ 2) nodes (omega arith, (omega arith, tt)) at n is;
      apart = λ at other n m is other_is same. omega (arith, uid at n is, uid other m other_is, same);
      root = λ n is. omega (arith, uid 0 n is);
    }
  where
    uid : (at : ℕ) (n : Node) → IsAt (with_keys times xs kind) at n → n.uid ≡ at + 1
    uid at n is = each (λ k x. x.uid ≡ k + 1) (with_keys times xs kind) (refl, (refl, tt)) at n is

-- it is the one node behind the root
file_place : (times : Times) (xs : List Xattr) (kind : NodeKind) (at : ℕ) (n : Node) → 0 < at → IsAt (with_keys times xs kind) at n → at ≡ 1
file_place times xs kind at n behind is =
    each (λ k x. 0 < k → k ≡ 1) (with_keys times xs kind) ((λ h. absurd (omega (arith, h))), ((λ h. refl), tt)) at n is behind

file_names : (times : Times) (xs : List Xattr) (kind : NodeKind) → AreNamesApart (with_keys times xs kind)
file_names times xs kind at other h =
    file_place times xs kind at h.node h.behind_root h.is ∙ sym (file_place times xs kind other h.named h.other_behind_root h.other_is)

-- the root has no attribute
root_keys : (times : Times) (xs : List Xattr) (kind : NodeKind) (before : ℕ) → before < 1 → HasKeyTwice (with_keys times xs kind) before → ⊥
root_keys times xs kind before small h =
    each (λ k x. k < 1 → (i : ℕ) (a : Xattr) → IsAt x.xattrs i a → ⊥) (with_keys times xs kind)
    ((λ _ i a is. each {X = Xattr} (λ _ _. ⊥) [] tt i a is), ((λ less. absurd (omega (arith, less))), tt)) before h.node h.is small h.earlier h.one h.one_is

-- nor has the file
file_keys : (times : Times) (kind : NodeKind) → AreKeysApart (with_file times kind)
file_keys times kind at h =
    each (λ k x. (i : ℕ) (a : Xattr) → IsAt x.xattrs i a → ⊥) (with_file times kind)
    ((λ i a is. each {X = Xattr} (λ _ _. ⊥) [] tt i a is), ((λ i a is. each {X = Xattr} (λ _ _. ⊥) [] tt i a is), tt)) at h.node h.is h.earlier h.one h.one_is

-- a key that a node has twice is told as a fault
pub key_twice : (at : Moment) (times : Times) → IsToldOf (index_of at 2 (two_notes times)) (faults.SameKey 2)
key_twice at times = record {
  uids = file_uids times _ _;
  names = file_names times _ _;
  at = 1;
  first = record {
    here = record { node = _; is = refl; earlier = 0; later = 2; two = omega arith; one = _; one_is = refl; other = _; other_is = refl; same = refl };
    none_before = root_keys times _ _;
  };
  told = record { node = _; is = refl; same = refl };
}

dir_file : (bytes : ℕ) (extents : List RawExtent) → kinds.Dir ≡ kinds.File bytes extents → ⊥
dir_file bytes extents e = cc e

no_file_at_root : (times : Times) (kind : NodeKind) (before bytes : ℕ) (extents : List RawExtent) → before < 1 → IsFileAt (with_file times kind) before bytes extents → ⊥
no_file_at_root times kind before bytes extents small f =
    each (λ k x. k < 1 → x.kind ≡ kinds.File bytes extents → ⊥) (with_file times kind)
    ((λ h e. dir_file bytes extents e), ((λ h e. absurd (omega (arith, h))), tt)) before f.node f.is small f.file

root_fine : (times : Times) (kind : NodeKind) (before : ℕ) → before < 1 → IsBadFile (with_file times kind) before → ⊥
root_fine times kind before small (inl out) = no_file_at_root times kind before out.bytes out.extents small out.file
root_fine times kind before small (inr over) = no_file_at_root times kind before over.bytes over.extents small over.file

-- an extent that ends too late is told as a fault
pub too_long : (at : Moment) (times : Times) → IsToldOf (index_of at 2 (long_file times)) (faults.Extent 2)
too_long at times =
    let out : IsOutOfBounds (long_file times) 1 = record { bytes = 2 ^ 40 + 1; extents = []; file = record { node = _; is = refl; file = refl }; out = inl (omega arith) } in
    record {
      at = 1;
      bad = record {
        uids = file_uids times [] _;
        names = file_names times [] _;
        keys = file_keys times _;
        first = record { here = inl out; none_before = root_fine times _ };
        told = record { node = _; is = refl; same = refl };
      };
      out = out;
    }

-- the two extents
abbrev both : List RawExtent
both = hello ∷ record { offset = 4; letter = 98; block = 9; byte = 0; count = 1 } ∷ []

file_parts : (b c : ℕ) (xs ys : List RawExtent) → kinds.File b xs ≡ kinds.File c ys → (c ≡ b) × (ys ≡ xs)
file_parts b c xs ys e = (cc, cc)

within : (times : Times) → IsOutOfBounds (shared_byte times) 1 → ⊥
within times h =
    let same = same_element (shared_byte times) 1 h.file.node (node times 0 2 (codes "f") (kinds.File 5 both)) h.file.is refl in
    let parts = file_parts 5 h.bytes both h.extents (sym (ap (λ n. n.kind) same) ∙ h.file.file) in
    elim h.out [
      | inl long ↦ omega (arith, long, parts.0)
      | inr far ↦
          let is : IsAt both far.at far.extent = subst (λ xs. IsAt xs far.at far.extent) parts.1 far.is in
          omega (arith, far.far, each (λ k e. e.offset + e.count ≤ 5) both (omega arith, (omega arith, tt)) far.at far.extent is)
    ]

-- extents that share a byte are told as a fault
pub overlap : (at : Moment) (times : Times) → IsToldOf (index_of at 2 (shared_byte times)) (faults.Overlap 2)
overlap at times =
    let shared : ShareOffset both 0 1 4 = record {
      one = _;
      is = refl;
      covers = record { from = omega arith; until = omega arith };
      two = _;
      other_is = refl;
      other_covers = record { from = omega arith; until = omega arith };
    } in
    let over : HasOverlap (shared_byte times) 1 = record {
      bytes = 5;
      extents = _;
      file = record { node = _; is = refl; file = refl };
      overlap = record { earlier = 0; later = 1; two = omega arith; offset = 4; shared = shared };
    } in
    record {
      at = 1;
      bad = record {
        uids = file_uids times [] _;
        names = file_names times [] _;
        keys = file_keys times _;
        first = record { here = inr over; none_before = root_fine times _ };
        told = record { node = _; is = refl; same = refl };
      };
      within = within times;
      overlap = over;
    }

-- a name twice in one directory is told as a fault
pub name_taken : (at : Moment) (times : Times) → IsToldOf (index_of at 3 (one_name times)) (faults.SameName 2)
name_taken at times = record {
  uids = record {
    bounded = omega arith;
    least = λ k n is. each (λ j x. 1 ≤ x.uid) (one_name times) (omega arith, (omega arith, (omega arith, tt))) k n is;
    most = λ k n is. each (λ j x. x.uid ≤ 3) (one_name times) (omega arith, (omega arith, (omega arith, tt))) k n is;
    apart = λ k j n m is other_is same. place k n is ∙ ap place_of same ∙ sym (place j m other_is);
    root = λ n is. each (λ j x. j ≡ 0 → x.uid ≡ 1) (one_name times) ((λ h. refl), ((λ h. absurd (omega (arith, h))), ((λ h. absurd (omega (arith, h))), tt))) 0 n is refl;
  };
  at = 2;
  first = record {
    here = record {
      earlier = 1;
      before = omega arith;
      taken = record { behind_root = omega arith; other_behind_root = omega arith; node = _; is = refl; named = _; other_is = refl; parent = refl; name = refl };
    };
    none_before = λ k small h. omega (arith, small, h.before, h.taken.behind_root);
  };
  told = record { node = _; is = refl; same = refl };
}
  where
    -- where the node with this UID stands
    place_of : ℕ → ℕ
    place_of u = if u == 1 then 0 else if u == 3 then 1 else 2

    place : (k : ℕ) (n : Node) → IsAt (one_name times) k n → k ≡ place_of n.uid
    place k n is = each (λ j x. j ≡ place_of x.uid) (one_name times) (refl, (refl, (refl, tt))) k n is

-- offsets of the three extents: below 3 in the first, from 3 on in the second, none in the third
touching_apart : (one two offset : ℕ) → ShareOffset touching one two offset → one ≡ two
touching_apart one two offset h =
    let first : (at : ℕ) (e : RawExtent) → IsAt touching at e → Covers e offset → ((at ≡ 0) × (offset < 3)) ⊎ ((at ≡ 1) × (3 ≤ offset)) =
    each (λ k e. Covers e offset → ((k ≡ 0) × (offset < 3)) ⊎ ((k ≡ 1) × (3 ≤ offset))) touching
    ((λ c. inl (refl, c.until)), ((λ c. inr (refl, c.from)), ((λ c. absurd (omega (arith, c.from, c.until))), tt))) in
    elim (first one h.one h.is h.covers) [
      | inl a ↦ elim (first two h.two h.other_is h.other_covers) [ inl b ↦ a.0 ∙ sym b.0 | inr b ↦ absurd (omega (arith, a.1, b.1)) ]
      | inr a ↦ elim (first two h.two h.other_is h.other_covers) [ inl b ↦ absurd (omega (arith, a.1, b.1)) | inr b ↦ a.0 ∙ sym b.0 ]
    ]

touching_file : (times : Times) (at bytes : ℕ) (extents : List RawExtent) → IsFileAt (with_file times (kinds.File 5 touching)) at bytes extents → (bytes ≡ 5) × (extents ≡ touching)
touching_file times at bytes extents f =
    each (λ k x. x.kind ≡ kinds.File bytes extents → (bytes ≡ 5) × (extents ≡ touching)) (with_file times (kinds.File 5 touching))
    ((λ e. absurd (dir_file bytes extents e)), ((λ e. file_parts 5 bytes touching extents e), tt)) at f.node f.is f.file

-- extents that only touch are allowed
pub touching_fine : (times : Times) → AreFiles (with_file times (kinds.File 5 touching))
touching_fine times = record {
  size = λ at bytes extents f. subst (λ b. b ≤ longest_file) (sym (touching_file times at bytes extents f).0)
      (omega arith);
  ends = λ at bytes extents f. subst (AllByRecursion (λ e. e.offset + e.count ≤ 2 ^ 62)) (sym (touching_file times at bytes extents f).1) (omega arith, (omega arith, (omega arith, tt)));
  apart = λ at bytes extents f one two offset shared. touching_apart one two offset (subst (λ xs. ShareOffset xs one two offset) (touching_file times at bytes extents f).1 shared);
}
