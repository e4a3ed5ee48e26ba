-- The values of leaves are in the ranges of their forms.
use Rattle.std.proofs.Common.{◌≡◌, ℕ, ◌+◌, ◌<◌, ◌≤◌, ◌^◌, List, [], Bool, true, false, cond, nat_le, nat_lt, not, ◌==◌, ◌&&◌, length, Option, Some, None, Result, Ok, Err, IsUtf8, refl, ap, subst, arith}
use Rattle.std.specs.Prelude.{⊤}
use Rattle.std.specs.Str.{chars, is_utf8}
use Rattle.std.proofs.lemmas.Bool.Decides.{nat_tests}
use Rattle.std.proofs.lemmas.Str.{IsUtf8-from_is_utf8}
use Rattle.std.proofs.lemmas.Bool.{not-true, and_parts}
use Rattle.tape_types.specs.Bounds.{longest_name}
use Rattle.tape_types.specs.Names.{has_byte, is_dot}
use Rattle.tape_types.specs.Uuids.{uuid_in}
use Rattle.ltfs_documents.specs.declared.doc_fields.starts.Start.{Start}
use Rattle.ltfs_documents.specs.declared.doc_fields.tags.Tag.{Tag}
use Rattle.ltfs_documents.specs.DocFields.Numbers.{number_at}
use Rattle.ltfs_documents.specs.DocFields.EndTag.{end_at}
use Rattle.ltfs_documents.specs.DocFields.Reading.{between, byte, syntax_at}
use Rattle.ltfs_documents.specs.DocFields.Space.{space_end}
use Rattle.ltfs_documents.specs.DocFields.Texts.{text_at}
use Rattle.ltfs_documents.specs.DocFields.Values.{letter_at, uuid_at, uuid_or_fault}
use Rattle.ltfs_documents.specs.LtfsText.Names.{decoded}
use Rattle.ltfs_documents.specs.declared.doc_elements.errors.PieceErr.{PieceErr}
use Rattle.ltfs_documents.specs.declared.doc_elements.errors.PieceErr.TheVariants as errors
use Rattle.ltfs_documents.specs.declared.doc_elements.schema.Form.{Form}
use Rattle.ltfs_documents.specs.declared.doc_elements.schema.Form.TheVariants as form
use Rattle.base64.specs.GeneralPurpose.{IsBytes}
use Rattle.tape_types.specs.NodeKeys.Keys.{is_key}
use Rattle.index_model.specs.Names.{IsNodeName, IsVolumeName}
use Rattle.ltfs_documents.specs.DocElements.Pieces.{Val, words, uuid, letter, number, bytes, ◌>>=◌, lift, least, is_too_great, in_range, number_in, is_volume_name, is_name, is_encoded, name_in, name_of, named, is_base64, bytes_in, bytes_of, bytes_told, some_bytes, value_in, empty_value, leaf_at}
use Rattle.index_model.specs.Texts.{IsLetter, IsPlainText}
use Rattle.ltfs_documents.proofs.DocElements.Inversion.{bind_ok, lift_ok, unless_ok}
use Rattle.index_read.proofs.DecodedBytes.{base64_bytes}
use Rattle.index_read.proofs.PlainTexts.{plain_nothing, text_read}
use Rattle.index_read.proofs.Uuids.{uuid_fits}

-- what is known of a value, by the form of its leaf
abbrev pub InRange : Form → Val → Type 0
InRange form.Text (words t) = IsPlainText t
InRange form.VolumeName (words t) = IsVolumeName t
InRange form.NodeName (words t) = IsNodeName t
InRange form.AnyName (words t) = IsUtf8 t
InRange form.Key (words t) = IsUtf8 t × (is_key t ≡ true)
InRange form.Value (bytes bs) = IsBytes bs
InRange form.Uuid (uuid n) = n < 2 ^ 128
InRange form.Letter (letter b) = IsLetter b
InRange form.Bounded (number n) = n ≤ 2 ^ 62
InRange form.Generation (number n) = (1 ≤ n) × (n ≤ 2 ^ 62)
InRange form.BlockSize (number n) = (4096 ≤ n) × (n ≤ 1048576)
InRange _ _ = ⊤

-- what holds of what was read holds of the value
as_value : (P : Val → Type 0) (x v : Val) (m n : ℕ) → ◌≡◌ {A = Result (Val × ℕ) PieceErr} (Ok (x, m)) (Ok (v, n)) → P x → P v
as_value P x v m n e h = let pair : ◌≡◌ {A = Val × ℕ} (x, m) (v, n) = cc in subst P (ap (λ (z : Val × ℕ). z.0) pair) h

-- ---- names

volume_name : (name : List ℕ) → IsUtf8 name → is_volume_name name ≡ true → IsVolumeName name
volume_name name valid e =
    let a = and_parts (nat_le (length (chars name)) longest_name && not (has_byte 47 name)) (not (has_byte 0 name)) e in
    let b = and_parts (nat_le (length (chars name)) longest_name) (not (has_byte 47 name)) a.0 in
    let short = b.0 in
    record { utf8 = valid; short = grind (arith, nat_tests); no_slash = not-true (has_byte 47 name) b.1; no_nul = not-true (has_byte 0 name) a.1 }

node_name : (name : List ℕ) → IsUtf8 name → is_name form.NodeName name ≡ true → IsNodeName name
node_name name valid e =
    let a = and_parts (is_volume_name name && nat_lt 0 (length name)) (not (is_dot name)) e in
    let b = and_parts (is_volume_name name) (nat_lt 0 (length name)) a.0 in
    let some = b.1 in
    record { text = volume_name name valid b.0; some = grind (arith, nat_tests); no_dot = not-true (is_dot name) a.1 }

any_name : (f : Form) (name : List ℕ) → IsUtf8 name → is_name f name ≡ true → (f ≡ form.Text → ⊥) → InRange f (words name)
any_name form.Text name valid e other = absurd (other refl)
any_name form.VolumeName name valid e other = volume_name name valid e
any_name form.NodeName name valid e other = node_name name valid e
any_name form.AnyName name valid e other = valid
any_name form.Key name valid e other = (valid, e)
any_name _ name valid e other = tt

named_range : (f : Form) (from : ℕ) (raw name : List ℕ) → (f ≡ form.Text → ⊥) → named f from raw ≡ Ok name → InRange f (words name)
named_range f from raw name other e = by (is_utf8 raw && is_name f raw) refl e
  where
    by : (b : Bool) → (is_utf8 raw && is_name f raw) ≡ b → cond b (Ok raw) (Err (errors.Name from)) ≡ Ok name → InRange f (words name)
    by true is h =
        let parts = and_parts (is_utf8 raw) (is_name f raw) is in
        let same : raw ≡ name = cc (h) in
        subst (λ (t : List ℕ). InRange f (words t)) same (any_name f raw (IsUtf8-from_is_utf8 raw parts.0) parts.1 other)
    by false is h = absurd cc

name_range : (f : Form) (from : ℕ) (start : Start) (text : List ℕ) (v : Val) (n : ℕ) → (f ≡ form.Text → ⊥) → name_in f from start text ≡ Ok (v, n) → InRange f v
unfolding name_in
name_range f from start text v n other e =
    let a = bind_ok (lift (text_at text start.next)) _ (v, n) e in
    let b = bind_ok (name_of f from start.attribute text a.0) _ (v, n) a.2 in
    let c = unless_ok (a.0.1 == length text) _ (named f from (decoded (is_encoded start.attribute) a.0.0)) b.0 b.1 in
    as_value (InRange f) (words b.0) v _ n b.2 (named_range f from _ b.0 other c.1)

empty_name : (f : Form) (from at : ℕ) (v : Val) (n : ℕ) → (f ≡ form.Text → ⊥) → ◌>>=◌ {B = Val × ℕ} (named f from []) (λ name. Ok (words name, at)) ≡ Ok (v, n) → InRange f v
empty_name f from at v n other e = let b = bind_ok (named f from []) _ (v, n) e in as_value (InRange f) (words b.0) v _ n b.2 (named_range f from [] b.0 other b.1)

-- ---- bytes

some_is : (at : ℕ) (o : Option (List ℕ)) (bs : List ℕ) → some_bytes at o ≡ Ok bs → o ≡ Some bs
some_is at (Some xs) bs e = let same : xs ≡ bs = cc (e) in ap (λ (l : List ℕ). Some l) same
some_is at None bs e = absurd cc

told_bytes : (in_base64 : Bool) (text bs : List ℕ) → IsBytes text → bytes_told in_base64 text ≡ Some bs → IsBytes bs
told_bytes true text bs are e = base64_bytes text bs are e
told_bytes false text bs are e = let same : text ≡ bs = cc (e) in subst IsBytes same are

bytes_range : (start : Start) (text : List ℕ) (v : Val) (n : ℕ) → bytes_in start text ≡ Ok (v, n) → InRange form.Value v
unfolding bytes_in
bytes_range start text v n e =
    let at = space_end text start.next in
    let a = bind_ok (lift (text_at text start.next)) _ (v, n) e in
    let b = bind_ok (bytes_of start.attribute text at a.0) _ (v, n) a.2 in
    let shown = bytes_told (is_base64 start.attribute) a.0.0 in
    let c = unless_ok (a.0.1 == length text) _ (some_bytes at shown) b.0 b.1 in
    let read = text_read text start.next a.0 (lift_ok (text_at text start.next) a.0 a.1) in
    as_value (InRange form.Value) (bytes b.0) v _ n b.2 (told_bytes (is_base64 start.attribute) a.0.0 b.0 read.bytes (some_is at shown b.0 c.1))

-- ---- numbers, letters and identifiers

from_tests : (f : Form) (n : ℕ) → nat_lt n (least f) ≡ false → is_too_great f n ≡ false → InRange f (number n)
from_tests form.Bounded n small great = grind (arith, nat_tests)
from_tests form.Generation n small great = (grind (arith, nat_tests), grind (arith, nat_tests))
from_tests form.BlockSize n small great = (grind (arith, nat_tests), grind (arith, nat_tests))
from_tests form.Text n small great = tt
from_tests _ n small great = tt

number_range : (f : Form) (text : List ℕ) (from : ℕ) (v : Val) (n : ℕ) → number_in f text from ≡ Ok (v, n) → InRange f v
unfolding number_in
number_range f text from v n e =
    let a = bind_ok (lift (number_at text from)) _ (v, n) e in
    let b = bind_ok (in_range f text from a.0) _ (v, n) a.2 in
    let great = unless_ok (is_too_great f a.0.0) _ _ b.0 b.1 in
    let small = unless_ok (nat_lt a.0.0 (least f)) _ (Ok a.0) b.0 great.1 in
    let same : a.0 ≡ b.0 = cc (small.1) in
    as_value (InRange f) (number b.0.0) v _ n b.2 (subst (λ (m : ℕ × ℕ). InRange f (number m.0)) same (from_tests f a.0.0 small.0 great.0))

letter_range : (text : List ℕ) (at : ℕ) (x : ℕ × ℕ) → letter_at text at ≡ Ok x → IsLetter x.0
unfolding letter_at
letter_range text at x e = by (nat_le 97 (byte text at) && nat_le (byte text at) 122) refl e
  where
    by : (b : Bool) → (nat_le 97 (byte text at) && nat_le (byte text at) 122) ≡ b → cond b (Ok (byte text at, at + 1)) (syntax_at at) ≡ Ok x → IsLetter x.0
    by true is h =
        let parts = and_parts (nat_le 97 (byte text at)) (nat_le (byte text at) 122) is in
        let low = parts.0 in
        let high = parts.1 in
        let same : (byte text at, at + 1) ≡ x = cc (h) in
        subst (λ (y : ℕ × ℕ). IsLetter y.0) same record { from_a = grind (arith, nat_tests); to_z = grind (arith, nat_tests) }
    by false is h = absurd cc

uuid_range : (text : List ℕ) (at : ℕ) (x : ℕ × ℕ) → uuid_at text at ≡ Ok x → x.0 < 2 ^ 128
unfolding uuid_at
uuid_range text at x e = by (nat_le (at + 36) (length text)) e
  where
    one : (o : Option ℕ) → uuid_in (between text at (at + 36)) ≡ o → uuid_or_fault text at o ≡ Ok x → x.0 < 2 ^ 128
    one (Some n) is h =
        let same : (n, at + 36) ≡ x = cc (h) in
        subst (λ (y : ℕ × ℕ). y.0 < 2 ^ 128) same (uuid_fits (between text at (at + 36)) n is)
    one None is h = absurd cc

    by : (b : Bool) → uuid_or_fault text at (cond b (uuid_in (between text at (at + 36))) None) ≡ Ok x → x.0 < 2 ^ 128
    by true h = one (uuid_in (between text at (at + 36))) refl h
    by false h = absurd cc

-- ---- leaves

value_range : (f : Form) (from : ℕ) (start : Start) (text : List ℕ) (v : Val) (n : ℕ) → value_in f from start text ≡ Ok (v, n) → InRange f v
value_range form.Text from start text v n e =
    let b = bind_ok (lift (text_at text start.next)) _ (v, n) e in
    as_value (InRange form.Text) (words b.0.0) v _ n b.2 (text_read text start.next b.0 (lift_ok (text_at text start.next) b.0 b.1)).plain
value_range form.VolumeName from start text v n e = name_range form.VolumeName from start text v n (λ h. cc h) e
value_range form.NodeName from start text v n e = name_range form.NodeName from start text v n (λ h. cc h) e
value_range form.AnyName from start text v n e = name_range form.AnyName from start text v n (λ h. cc h) e
value_range form.Key from start text v n e = name_range form.Key from start text v n (λ h. cc h) e
value_range form.Value from start text v n e = bytes_range start text v n e
value_range form.Uuid from start text v n e =
    let at = space_end text start.next in
    let b = bind_ok (lift (uuid_at text at)) _ (v, n) e in
    as_value (InRange form.Uuid) (uuid b.0.0) v _ n b.2 (uuid_range text at b.0 (lift_ok (uuid_at text at) b.0 b.1))
value_range form.Letter from start text v n e =
    let at = space_end text start.next in
    let b = bind_ok (lift (letter_at text at)) _ (v, n) e in
    as_value (InRange form.Letter) (letter b.0.0) v _ n b.2 (letter_range text at b.0 (lift_ok (letter_at text at) b.0 b.1))
value_range form.Bounded from start text v n e = number_range form.Bounded text _ v n e
value_range form.Generation from start text v n e = number_range form.Generation text _ v n e
value_range form.BlockSize from start text v n e = number_range form.BlockSize text _ v n e
value_range form.Number from start text v n e = tt
value_range _ from start text v n e = tt

empty_range : (f : Form) (from at : ℕ) (v : Val) (n : ℕ) → empty_value f from at ≡ Ok (v, n) → InRange f v
empty_range form.Text from at v n e = as_value (InRange form.Text) (words []) v _ n e plain_nothing
empty_range form.VolumeName from at v n e = empty_name form.VolumeName from at v n (λ h. cc h) e
empty_range form.NodeName from at v n e = empty_name form.NodeName from at v n (λ h. cc h) e
empty_range form.AnyName from at v n e = empty_name form.AnyName from at v n (λ h. cc h) e
empty_range form.Key from at v n e = empty_name form.Key from at v n (λ h. cc h) e
empty_range form.Value from at v n e = as_value (InRange form.Value) (bytes []) v _ n e (λ i. omega arith)
empty_range _ from at v n e = absurd cc

-- the value of a leaf that is read is in the range of its form
pub leaf_range : (f : Form) (tag : Tag) (from : ℕ) (start : Start) (text : List ℕ) (v : Val) (n : ℕ) → leaf_at f tag from start text ≡ Ok (v, n) → InRange f v
unfolding leaf_at
leaf_range f tag from start text v n e = by start.empty e
  where
    by : (b : Bool) → cond b (empty_value f from start.next) (value_in f from start text >>= λ x. lift (end_at text x.1 tag) >>= λ y. Ok (x.0, y)) ≡ Ok (v, n) → InRange f v
    by true h = empty_range f from start.next v n h
    by false h =
        let a = bind_ok (value_in f from start text) _ (v, n) h in
        let b = bind_ok (lift (end_at text a.0.1 tag)) (λ y. Ok (a.0.0, y)) (v, n) a.2 in
        as_value (InRange f) a.0.0 v b.0 n b.2 (value_range f from start text a.0.0 a.0.1 a.1)
