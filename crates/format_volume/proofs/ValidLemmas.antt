-- The indexes of an empty volume are valid ones.
use Rattle.std.proofs.Common.{ℕ, zero, suc, ◌≡◌, ◌≤◌, ◌<◌, ◌∙◌, ◌&&◌, List, [], ◌∷◌, length, Bool, true, false}
use Rattle.std.proofs.Common.{Option, Some, None, refl, sym, ap, subst, arith, nat_le, not, IsAscii, All, IfSome}
use Rattle.std.specs.List.{list_all}
use Rattle.std.proofs.lemmas.Bool.{and_from, and_parts}
use Rattle.std.proofs.lemmas.Bool.Decides.{nat_tests}
use Rattle.std.proofs.lemmas.List.Elements.{All-nil, All-cons}
use Rattle.std.proofs.lemmas.Str.{IsUtf8-from_ascii, chars-IsAscii}
use Rattle.std.proofs.lemmas.Str.Ascii.{IsAscii-from_all}
use Rattle.std.specs.Str.{IsUtf8, chars}
use Rattle.ltfs_documents.specs.DocFields.Texts.{is_allowed}
use Rattle.index_model.specs.Extents.{AreFiles, IsFileAt}
use Rattle.index_model.specs.Keys.{AreKeysApart}
use Rattle.index_model.specs.Names.{AreNames, AreNamesApart, IsVolumeName}
use Rattle.index_model.specs.Order.{AreInOrder}
use Rattle.index_model.specs.Places.{IsAt}
use Rattle.index_model.specs.Texts.{IsPlainText}
use Rattle.index_model.specs.Uids.{AreUids}
use Rattle.index_model.specs.Valid.{IsPolicy, IsSpot, IsValid}
use Rattle.std.proofs.lemmas.Option.{none-some}
use Rattle.index_model.specs.declared.indexes.Policy.{Policy}
use Rattle.index_model.specs.declared.nodes.NodeKind.TheVariants as kinds
use Rattle.index_model.specs.declared.nodes.Node.{Node}
use Rattle.index_model.specs.declared.nodes.RawExtent.{RawExtent}
use Rattle.tape_types.specs.Bounds.{longest_file, longest_name}
use Rattle.tape_types.specs.Names.{has_byte}
use Rattle.tape_types.specs.declared.cartridges.Part.{Part}
use Rattle.tape_types.specs.declared.cartridges.Part.TheVariants.{Ip, Dp}
use Rattle.format_volume.specs.declared.requests.FormatSpec.{FormatSpec}
use Rattle.format_volume.specs.Refusals.{HasTexts, IsSpec, is_pattern, is_policy, is_volume_name, spec_fault}
use Rattle.format_volume.specs.Volumes.{back_on, creator, first_spot, index_on, root_of}
use Rattle.format_volume.proofs.TextLemmas.{fine, letter_fits}

-- ---- the name of this program

abbrev printable : ℕ → Bool
printable c = nat_le 32 c && nat_le c 126

ascii_from : (text : List ℕ) → list_all printable text ≡ true → All (λ c. c < 128) text
ascii_from [] e = All-nil (λ c. c < 128)
ascii_from (c ∷ text) e =
    let p = and_parts (printable c) (list_all printable text) e in
    let small = and_parts (nat_le 32 c) (nat_le c 126) p.0 in
    All-cons (λ k. k < 128) c text (grind (arith, nat_tests)) (ascii_from text p.1)

allowed_from : (text : List ℕ) → list_all printable text ≡ true → list_all is_allowed text ≡ true
allowed_from [] e = refl
allowed_from (c ∷ text) e =
    let p = and_parts (printable c) (list_all printable text) e in
    let small = and_parts (nat_le 32 c) (nat_le c 126) p.0 in
    and_from (is_allowed c) (list_all is_allowed text) (grind (arith, nat_tests)) (allowed_from text p.1)

plain : (text : List ℕ) → list_all printable text ≡ true → IsPlainText text
plain text e =
    let ascii : IsAscii text = IsAscii-from_all text (ascii_from text e) in
    record {
      utf8 = IsUtf8-from_ascii text ascii;
      allowed = ap (list_all is_allowed) (chars-IsAscii text ascii) ∙ allowed_from text e;
    }

creator_plain : IsPlainText creator
creator_plain = plain creator refl

-- ---- what is fine of a volume

true_le : (a b : ℕ) → nat_le a b ≡ true → a ≤ b
true_le a b h = grind arith

not_so : (b : Bool) → not b ≡ true → b ≡ false
not_so true e = absurd (cc e)
not_so false e = refl

name_fits : (name : List ℕ) → is_volume_name name ≡ true → IsUtf8 name → IsVolumeName name
name_fits name is utf8 =
    let outer = and_parts (nat_le (length (chars name)) longest_name && not (has_byte 47 name))
    (not (has_byte 0 name)) is in
    let inner = and_parts (nat_le (length (chars name)) longest_name) (not (has_byte 47 name)) outer.0 in
    record {
      utf8 = utf8;
      short = true_le (length (chars name)) longest_name inner.0;
      no_slash = not_so (has_byte 47 name) inner.1;
      no_nul = not_so (has_byte 0 name) outer.1;
    }

policy_fits : (policy : Option Policy) → is_policy policy ≡ true → HasTexts policy → IfSome policy IsPolicy
policy_fits None is texts = tt
policy_fits (Some p) is texts =
    let outer = and_parts (nat_le p.size longest_file && nat_le (length p.names) 64) (list_all is_pattern p.names) is in
    let inner = and_parts (nat_le p.size longest_file) (nat_le (length p.names) 64) outer.0 in
    let most : p.size ≤ longest_file = true_le p.size longest_file inner.0 in
    record { size = omega (arith, most); names = texts }

spot_fits : (part : Part) → IsSpot (first_spot part)
spot_fits part = record {
  letter = record { from_a = (letter_fits part).0; to_z = (letter_fits part).1 };
  block = omega arith;
}

back_fits : (part : Part) → IfSome (back_on part) IsSpot
back_fits Ip = spot_fits Dp
back_fits Dp = tt

-- ---- a root alone

alone : (root : Node) (at : ℕ) (n : Node) → IsAt (root ∷ []) at n → (at ≡ 0) × (root ≡ n)
alone root zero n is = (refl, cc)
alone root (suc at) n is = absurd (cc is)

no_file : (root : Node) → root.kind ≡ kinds.Dir → (at bytes : ℕ) (raws : List RawExtent)
    → IsFileAt (root ∷ []) at bytes raws → ⊥
no_file root dir at bytes raws file =
    let same : root ≡ file.node = (alone root at file.node file.is).1 in
    let wrong : kinds.Dir ≡ kinds.File bytes raws = sym dir ∙ ap (λ (n : Node). n.kind) same ∙ file.file in
    absurd (cc wrong)

order_alone : (root : Node) → root.parent ≡ 0 → root.kind ≡ kinds.Dir → AreInOrder (root ∷ [])
order_alone root parent dir = record {
  root = root;
  first = refl;
  is_root = record { parent = parent; dir = dir };
  before = λ at n some is. absurd (omega (arith, some, (alone root at n is).0));
  dirs = λ at n is. record {
    node = root;
    is = subst (λ k. IsAt (root ∷ []) k root) (sym (ap (λ (n : Node). n.parent) (sym (alone root at n is).1) ∙ parent)) refl;
    dir = dir;
  };
  together = λ at n is. absurd (omega (arith, (alone root (suc at) n is).0));
}

names_alone : (root : Node) → IsVolumeName root.name → AreNames (root ∷ [])
names_alone root name = record {
  volume = λ n is. subst (λ (n : Node). IsVolumeName n.name) (alone root 0 n is).1 name;
  others = λ at n some is. absurd (omega (arith, some, (alone root at n is).0));
}

uids_alone : (root : Node) → root.uid ≡ 1 → AreUids 1 (root ∷ [])
uids_alone root uid = record {
  bounded = omega arith;
  least = λ at n is. omega (arith, ap (λ (n : Node). n.uid) (alone root at n is).1, uid);
  most = λ at n is. omega (arith, ap (λ (n : Node). n.uid) (alone root at n is).1, uid);
  apart = λ at other n k is also _. (alone root at n is).0 ∙ sym (alone root other k also).0;
  root = λ n is. ap (λ (n : Node). n.uid) (sym (alone root 0 n is).1) ∙ uid;
}

names_apart_alone : (root : Node) → AreNamesApart (root ∷ [])
names_apart_alone root = λ at other one. absurd (omega (arith, one.behind_root, (alone root at one.node one.is).0))

keys_apart_alone : (root : Node) → root.xattrs ≡ [] → AreKeysApart (root ∷ [])
keys_apart_alone root none at h =
    let empty = ap (λ (n : Node). n.xattrs) (sym (alone root at h.node h.is).1) ∙ none in
    none-some h.one (subst (λ xs. IsAt xs h.earlier h.one) empty h.one_is)

files_alone : (root : Node) → root.kind ≡ kinds.Dir → AreFiles (root ∷ [])
files_alone root dir = record {
  size = λ at bytes raws file. absurd (no_file root dir at bytes raws file);
  ends = λ at bytes raws file. absurd (no_file root dir at bytes raws file);
  apart = λ at bytes raws file. absurd (no_file root dir at bytes raws file);
}

-- ---- the index

-- the index of an empty volume is valid on either partition
pub valid : (part : Part) (spec : FormatSpec) → spec_fault spec ≡ None → IsSpec spec → IsValid (index_on part spec)
valid part spec none values = record {
  formed = record {
    volume = record {
      creator = creator_plain;
      comment = tt;
      uuid = values.uuid;
      generation_least = omega arith;
      generation_most = omega arith;
      here = spot_fits part;
      back = back_fits part;
      policy = policy_fits spec.policy (fine spec none).policy values.patterns;
    };
    count = omega arith;
    order = order_alone (root_of spec) refl refl;
    names = names_alone (root_of spec) (name_fits spec.name (fine spec none).name values.name);
    xattrs = (tt, tt);
    kinds = (tt, tt);
  };
  agrees = record {
    uids = uids_alone (root_of spec) refl;
    names = names_apart_alone (root_of spec);
    keys = keys_apart_alone (root_of spec) refl;
    files = files_alone (root_of spec) refl;
  };
}
