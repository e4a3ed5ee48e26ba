-- The archive is a valid index.
use Rattle.std.proofs.Common.{◌≡◌, ℕ, zero, suc, ◌+◌, ◌<◌, ◌≤◌, ◌^◌, ◌&&◌, Bool, true, false, not, nat_le, nat_lt, length, List, [], ◌∷◌, codes, IsAscii, All, subst, refl, sym, ap, ◌∙◌, arith}
use Rattle.std.specs.List.{AllByRecursion, list_all}
use Rattle.std.proofs.lemmas.Bool.{and_from, and_parts}
use Rattle.std.proofs.lemmas.Bool.Decides.{nat_tests}
use Rattle.std.proofs.lemmas.List.Elements.{All-nil, All-cons}
use Rattle.std.proofs.lemmas.Str.{IsUtf8-from_ascii, chars-IsAscii}
use Rattle.std.proofs.lemmas.Str.Ascii.{IsAscii-from_all}
use Rattle.tape_types.specs.Bounds.{longest_file, longest_name}
use Rattle.tape_types.specs.Names.{has_byte}
use Rattle.tape_types.specs.declared.moments.Moment.{Moment}
use Rattle.tape_types.specs.declared.moments.Times.{Times}
use Rattle.index_model.specs.declared.nodes.NodeKind.TheVariants as kinds
use Rattle.index_model.specs.declared.nodes.Node.{Node}
use Rattle.index_model.specs.declared.nodes.RawExtent.{RawExtent}
use Rattle.index_model.specs.Archive.{archive, archive_nodes, archive_rest, bin, hello, hi, node, note}
use Rattle.index_model.specs.Extents.{AreFiles, IsFileAt, ShareOffset}
use Rattle.base64.specs.GeneralPurpose.{IsBytes}
use Rattle.tape_types.specs.NodeKeys.Keys.{is_key}
use Rattle.tape_types.specs.declared.node_keys.xattrs.Xattr.{Xattr}
use Rattle.index_model.specs.Keys.{AreKeysApart, HasKeyTwice, IsXattr}
use Rattle.index_model.specs.Names.{AreNames, AreNamesApart, IsNodeName, IsVolumeName}
use Rattle.index_model.specs.Order.{AreInOrder, IsDirAt, LiesIn}
use Rattle.index_model.specs.Order.LiesIn.{itself, through}
use Rattle.index_model.specs.Places.{IsAt}
use Rattle.index_model.specs.Texts.{IsLetter, IsPlainText}
use Rattle.ltfs_documents.specs.DocFields.Texts.{is_allowed}
use Rattle.index_model.specs.Uids.{AreUids}
use Rattle.index_model.specs.Valid.{IsFormed, IsValid}
use Rattle.index_model.proofs.Walks.{EachFrom, each}

abbrev printable : ℕ → Bool
printable c = nat_le 32 c && nat_le c 126

ascii_from : (text : List ℕ) → list_all printable text ≡ true → All (λ c. c < 128) text
ascii_from [] e = All-nil (λ c. c < 128)
ascii_from (c ∷ text) e =
    let p = and_parts (printable c) (list_all printable text) e in
    let small = and_parts (nat_le 32 c) (nat_le c 126) p.0 in
    All-cons (λ k. k < 128) c text (grind (arith, nat_tests)) (ascii_from text p.1)

allowed_from : (text : List ℕ) → list_all printable text ≡ true → list_all is_allowed text ≡ true
allowed_from [] e = refl
allowed_from (c ∷ text) e =
    let p = and_parts (printable c) (list_all printable text) e in
    let small = and_parts (nat_le 32 c) (nat_le c 126) p.0 in
    and_from (is_allowed c) (list_all is_allowed text) (grind (arith, nat_tests)) (allowed_from text p.1)

ascii : (text : List ℕ) → list_all printable text ≡ true → IsAscii text
ascii text e = IsAscii-from_all text (ascii_from text e)

plain : (text : List ℕ) → list_all printable text ≡ true → IsPlainText text
plain text e = record {
  utf8 = IsUtf8-from_ascii text (ascii text e);
  allowed = ap (list_all is_allowed) (chars-IsAscii text (ascii text e)) ∙ allowed_from text e;
}

in_order : (times : Times) → AreInOrder (archive_nodes times)
in_order times =
    let nodes = archive_nodes times in
    let root : IsDirAt nodes 0 = record { node = _; is = refl; dir = refl } in
    let docs : IsDirAt nodes 1 = record { node = _; is = refl; dir = refl } in
    let docs_root : LiesIn nodes 1 0 = through 1 0 _ (omega arith) refl (itself 0) in
    record {
      root = node times 0 1 (codes "Archive") kinds.Dir;
      first = refl;
      is_root = record { parent = refl; dir = refl };
      before = λ at n behind is. each (λ k x. 0 < k → x.parent < k) nodes ((λ h. h), ((λ h. h), ((λ h. omega arith), ((λ h. omega arith), tt)))) at n is behind;
      dirs = λ at n is. each (λ k x. IsDirAt nodes x.parent) nodes (root, (root, (docs, (root, tt)))) at n is;
      together = λ at n is. each (λ k x. LiesIn nodes k x.parent) (archive_rest times) (itself 0, (itself 1, (through 2 0 _ (omega arith) refl docs_root, tt))) at n is;
    }

volume_name : (text : List ℕ) → list_all printable text ≡ true → nat_le (length text) longest_name ≡ true → has_byte 47 text ≡ false → has_byte 0 text ≡ false → IsVolumeName text
volume_name text e short no_slash no_nul = record {
  utf8 = IsUtf8-from_ascii text (ascii text e);
  short = rw (chars-IsAscii text (ascii text e)) (grind (arith, nat_tests));
  no_slash = no_slash;
  no_nul = no_nul;
}

named : (times : Times) → AreNames (archive_nodes times)
named times =
    let nodes = archive_nodes times in
    let docs : IsNodeName (codes "docs") = record { text = volume_name (codes "docs") refl refl refl refl; some = omega arith; no_dot = refl } in
    let read : IsNodeName (codes "read me.txt") = record { text = volume_name (codes "read me.txt") refl refl refl refl; some = omega arith; no_dot = refl } in
    let latest : IsNodeName (codes "latest") = record { text = volume_name (codes "latest") refl refl refl refl; some = omega arith; no_dot = refl } in
    record {
      volume = λ root is. each (λ k x. k ≡ 0 → IsVolumeName x.name) nodes ((λ _. volume_name (codes "Archive") refl refl refl refl), ((λ h. absurd (cc h)), ((λ h. absurd (cc h)), ((λ h. absurd (cc h)), tt)))) 0 root is refl;
      others = λ at n behind is. each (λ k x. 0 < k → IsNodeName x.name) nodes ((λ h. absurd (omega (arith, h))), ((λ _. docs), ((λ _. read), ((λ _. latest), tt)))) at n is behind;
    }

-- the places of two nodes with one key
abbrev Apart : (Node → ℕ) → List Node → Type 0
Apart key nodes = (at other : ℕ) (a b : Node) → IsAt nodes at a → IsAt nodes other b → key a ≡ key b → at ≡ other

uids : (times : Times) → AreUids 4 (archive_nodes times)
uids times =
    let nodes = archive_nodes times in
    record {
      bounded = omega arith;
      least = λ at n is. each (λ k x. 1 ≤ x.uid) nodes (omega arith, (omega arith, (omega arith, (omega arith, tt)))) at n is;
      most = λ at n is. each (λ k x. x.uid ≤ 4) nodes (omega arith, (omega arith, (omega arith, (omega arith, tt)))) at n is;
      apart = λ at other n m is other_is same. same_place at other (uid_at at n is) (uid_at other m other_is) same;
      root = λ n is. omega (arith, uid_at 0 n is);
    }
  where
    uid_at : (at : ℕ) (n : Node) → IsAt (archive_nodes times) at n → n.uid ≡ at + 1
    uid_at at n is = each (λ k x. x.uid ≡ k + 1) (archive_nodes times) (refl, (refl, (refl, (refl, tt)))) at n is

    same_place : (at other : ℕ) {u v : ℕ} → u ≡ at + 1 → v ≡ other + 1 → u ≡ v → at ≡ other
    same_place at other e f same = omega (arith, e, f, same)

names_apart : (times : Times) → AreNamesApart (archive_nodes times)
names_apart times at other h =
    let nodes = archive_nodes times in
    let root : EachFrom (λ k y. 7 ≡ length y.name → 0 ≡ k) 0 nodes = ((λ e. refl), ((λ e. absurd (omega (arith, e))), ((λ e. absurd (omega (arith, e))), ((λ e. absurd (omega (arith, e))), tt)))) in
    let docs : EachFrom (λ k y. 4 ≡ length y.name → 1 ≡ k) 0 nodes = ((λ e. absurd (omega (arith, e))), ((λ e. refl), ((λ e. absurd (omega (arith, e))), ((λ e. absurd (omega (arith, e))), tt)))) in
    let read : EachFrom (λ k y. 11 ≡ length y.name → 2 ≡ k) 0 nodes = ((λ e. absurd (omega (arith, e))), ((λ e. absurd (omega (arith, e))), ((λ e. refl), ((λ e. absurd (omega (arith, e))), tt)))) in
    let latest : EachFrom (λ k y. 6 ≡ length y.name → 3 ≡ k) 0 nodes = ((λ e. absurd (omega (arith, e))), ((λ e. absurd (omega (arith, e))), ((λ e. absurd (omega (arith, e))), ((λ e. refl), tt)))) in
    let long : EachFrom (λ k x. length x.name ≡ length h.named.name → k ≡ other) 0 nodes = (
      each (λ k y. 7 ≡ length y.name → 0 ≡ k) nodes root other h.named h.other_is,
      (
        each (λ k y. 4 ≡ length y.name → 1 ≡ k) nodes docs other h.named h.other_is,
        (
          each (λ k y. 11 ≡ length y.name → 2 ≡ k) nodes read other h.named h.other_is,
          (each (λ k y. 6 ≡ length y.name → 3 ≡ k) nodes latest other h.named h.other_is, tt),
        ),
      ),
    ) in
    each (λ k x. length x.name ≡ length h.named.name → k ≡ other) nodes long at h.node h.is (ap length h.name)

-- the one file
abbrev IsHello : ℕ → List RawExtent → Type 0
IsHello bytes extents = (bytes ≡ 5) × (extents ≡ hello ∷ [])

file_parts : (b c : ℕ) (xs ys : List RawExtent) → kinds.File b xs ≡ kinds.File c ys → (c ≡ b) × (ys ≡ xs)
file_parts b c xs ys e = (cc, cc)

the_file : (times : Times) (at bytes : ℕ) (extents : List RawExtent) → IsFileAt (archive_nodes times) at bytes extents → IsHello bytes extents
the_file times at bytes extents h =
    each (λ k x. x.kind ≡ kinds.File bytes extents → IsHello bytes extents) (archive_nodes times)
    ((λ e. absurd (cc e)), ((λ e. absurd (cc e)), ((λ e. file_parts 5 bytes (hello ∷ []) extents e), ((λ e. absurd (cc e)), tt)))) at h.node h.is h.file

one_apart : (at other offset : ℕ) → ShareOffset (hello ∷ []) at other offset → at ≡ other
one_apart at other offset h =
    let one = each (λ k e. 0 ≡ k) (hello ∷ []) (refl, tt) at h.one h.is in
    let two = each (λ k e. 0 ≡ k) (hello ∷ []) (refl, tt) other h.two h.other_is in
    omega (arith, one, two)

files : (times : Times) → AreFiles (archive_nodes times)
files times = record {
  size = λ at bytes extents h. subst (λ b. b ≤ longest_file) (sym (the_file times at bytes extents h).0) (omega arith);
  ends = λ at bytes extents h. subst (AllByRecursion (λ e. e.offset + e.count ≤ 2 ^ 62)) (sym (the_file times at bytes extents h).1) (omega arith, tt);
  apart = λ at bytes extents h one two offset shared. one_apart one two offset (subst (λ xs. ShareOffset xs one two offset) (the_file times at bytes extents h).1 shared);
}

key : (text : List ℕ) → list_all printable text ≡ true → nat_lt 0 (length text) ≡ true → nat_le (length text) longest_name ≡ true → has_byte 0 text ≡ false → is_key text ≡ true
key text e some short no_nul =
    rw (chars-IsAscii text (ascii text e))
    (and_from (nat_lt 0 (length text) && nat_le (length text) longest_name) (not (has_byte 0 text)) (and_from (nat_lt 0 (length text)) (nat_le (length text) longest_name) some short) (ap not no_nul))

xattr : (x : Xattr) → list_all printable x.key ≡ true → nat_lt 0 (length x.key) ≡ true → nat_le (length x.key) longest_name ≡ true → has_byte 0 x.key ≡ false → IsBytes x.value → IsXattr x
xattr x e some short no_nul are = record {
  utf8 = IsUtf8-from_ascii x.key (ascii x.key e);
  key = key x.key e some short no_nul;
  bytes = are;
}

two_bytes : (a b : ℕ) → a < 256 → b < 256 → IsBytes (a ∷ b ∷ [])
two_bytes a b small_a small_b zero = small_a
two_bytes a b small_a small_b (suc zero) = small_b
two_bytes a b small_a small_b (suc (suc i)) = omega arith

-- of the attributes of one node no two have one key
abbrev OnceEach : Node → Type 0
OnceEach x = (i j : ℕ) (a b : Xattr) → i < j → IsAt x.xattrs i a → IsAt x.xattrs j b → a.key ≡ b.key → ⊥

no_keys : (i j : ℕ) (a b : Xattr) → i < j → IsAt {X = Xattr} [] i a → IsAt {X = Xattr} [] j b → a.key ≡ b.key → ⊥
no_keys i j a b less is other_is same = each {X = Xattr} (λ k x. ⊥) [] tt i a is

three_keys : (i j : ℕ) (a b : Xattr) → i < j → IsAt (note ∷ bin ∷ hi ∷ []) i a → IsAt (note ∷ bin ∷ hi ∷ []) j b → a.key ≡ b.key → ⊥
three_keys i j a b less is other_is same =
    let long : (k : ℕ) (x : Xattr) → IsAt (note ∷ bin ∷ hi ∷ []) k x → length x.key + k ≡ 9 = each (λ k x. length x.key + k ≡ 9) (note ∷ bin ∷ hi ∷ []) (refl, (refl, (refl, tt))) in
    omega (arith, less, long i a is, long j b other_is, ap length same)

keys_apart : (times : Times) → AreKeysApart (archive_nodes times)
keys_apart times at h =
    each (λ k x. OnceEach x) (archive_nodes times) (no_keys, (no_keys, (three_keys, (no_keys, tt)))) at h.node h.is h.earlier h.later h.one h.other h.two h.one_is h.other_is h.same

letter : (l : ℕ) → nat_le 97 l ≡ true → nat_le l 122 ≡ true → IsLetter l
letter l from to = record { from_a = grind (arith, nat_tests); to_z = grind (arith, nat_tests) }

formed : (at : Moment) (times : Times) → IsFormed (archive at times)
formed at times = record {
  volume = record {
    creator = plain (codes "Example LTFS 2.4.0.0 - Linux - ltfs") refl;
    comment = plain (codes "Nightly & weekly") refl;
    uuid = omega arith;
    generation_least = omega arith;
    generation_most = omega arith;
    here = record { letter = letter 98 refl refl; block = omega arith };
    back = record { letter = letter 98 refl refl; block = omega arith };
    policy = tt;
  };
  count = omega arith;
  order = in_order times;
  names = named times;
  xattrs = (tt, (tt, ((xattr note refl refl refl refl (two_bytes 104 105 (omega arith) (omega arith)), (xattr bin refl refl refl refl (two_bytes 0 longest_name (omega arith) (omega arith)), (xattr hi refl refl refl refl (two_bytes 104 105 (omega arith) (omega arith)), tt))), (tt, tt))));
  kinds = (tt, (tt, ((record { offset = omega arith; letter = letter 98 refl refl; block = omega arith; byte = omega arith; count = omega arith }, tt), (IsUtf8-from_ascii (codes "docs/read me.txt") (ascii (codes "docs/read me.txt") refl), tt))));
}

-- the index of the example archive is valid
pub archive_is_valid : (at : Moment) (times : Times) → IsValid (archive at times)
archive_is_valid at times = record {
  formed = formed at times;
  agrees = record { uids = uids times; names = names_apart times; keys = keys_apart times; files = files times };
}
