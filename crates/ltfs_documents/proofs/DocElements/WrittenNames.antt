-- Names that are written are read again.
use Rattle.std.proofs.Common.{◌≡◌, ℕ, ◌+◌, Bool, true, false, eqb, List, [], ◌∷◌, ◌++◌, length, drop, Ok, IsUtf8, refl, ap, ◌∙◌, inl, inr, arith}
use Rattle.std.specs.List.{list_all, list_any}
use Rattle.std.specs.Str.{chars}
use Rattle.std.proofs.lemmas.Bool.{and_parts, or_parts}
use Rattle.std.proofs.lemmas.Bool.Decides.{nat_tests}
use Rattle.std.proofs.lemmas.Str.{IsUtf8-from_ascii, scalars-chars}
use lib.Utf8.{scalar, scalars, scalar_cases}
use Rattle.percent_encoding.specs.Percent.{percent_encode}
use Rattle.percent_encoding.proofs.PercentLemmas.{IsAscii-percent_encode}
use Rattle.ltfs_documents.specs.declared.doc_fields.starts.Attribute.{Attribute}
use Rattle.ltfs_documents.specs.declared.doc_fields.starts.Start.{Start}
use Rattle.ltfs_documents.specs.DocFields.Texts.{is_allowed, IsWritable}
use Rattle.ltfs_documents.specs.DocFields.Written.{escape}
use Rattle.ltfs_documents.proofs.DocFields.Again.{next_is, within}
use Rattle.ltfs_documents.proofs.DocFields.TextsAgain.{escape_valid, text_again}
use Rattle.ltfs_documents.specs.declared.ltfs_text.names.TheConstants.{ESCAPED}
use Rattle.ltfs_documents.specs.LtfsText.Names.{decoded, has_special, is_special, written}
use Rattle.ltfs_documents.proofs.LtfsText.Texts.{encodes_as, written_back, written_plain}
use Rattle.ltfs_documents.specs.declared.doc_elements.schema.Form.{Form}
use Rattle.ltfs_documents.specs.DocElements.Pieces.{words, is_encoded, is_name, name_in}
use Rattle.ltfs_documents.specs.DocElements.Written.{encoding}
use Rattle.ltfs_documents.proofs.DocElements.Names.{utf8_is}

-- ---- the text of a name may stand in a document

allowed_one : (c : ℕ) → scalar c ≡ true → is_special c ≡ false → is_allowed c ≡ true
allowed_one c e plain = elim (scalar_cases c e) [
  | inl low ↦ grind (arith, nat_tests)
  | inr high ↦ let least = high.0 in let most = high.1 in grind (arith, nat_tests)
]

all_allowed : (cs : List ℕ) → scalars cs ≡ true → list_any is_special cs ≡ false → list_all is_allowed cs ≡ true
all_allowed [] e plain = refl
all_allowed (c ∷ cs) e plain =
    let x = and_parts (scalar c) (scalars cs) e in
    let y = or_parts (is_special c) (list_any is_special cs) plain in
    rw (allowed_one c x.0 y.0) (all_allowed cs x.1 y.1)

written_utf8 : (name : List ℕ) → IsUtf8 name → IsUtf8 (written name).text
written_utf8 name u =
    elim (has_special name) as (λ b. has_special name ≡ b → IsUtf8 (written name).text) [
      | true ↦ λ e. rw (e, ← encodes_as name) (IsUtf8-from_ascii (percent_encode ESCAPED name) (IsAscii-percent_encode ESCAPED name))
      | false ↦ λ e. rw e u
    ] refl

name_writable : (name : List ℕ) → IsUtf8 name → IsWritable (written name).text
name_writable name u =
    let valid = written_utf8 name u in
    (valid, all_allowed (chars (written name).text) (scalars-chars (written name).text valid) (written_plain name))

-- ---- names

encoded_is : (name : List ℕ) → is_encoded (encoding (written name)) ≡ (written name).percent
encoded_is name = go (written name).percent
  where
    go : (b : Bool) → is_encoded (encoding (record { text = []; percent = b })) ≡ b
    go true = refl
    go false = refl

-- the text of a name, as it is written, is read as that name
pub name_in_back : (f : Form) (name : List ℕ) → IsUtf8 name → is_name f name ≡ true → (text : List ℕ) (from : ℕ) (start : Start) (rest : List ℕ) → start.attribute ≡ encoding (written name) → drop start.next text ≡ escape (written name).text ++ 60 ∷ rest → name_in f from start text ≡ Ok (words name, start.next + length (escape (written name).text))
unfolding name_in
name_in_back f name u good text from start rest a e =
    let read = text_again text start.next (written name).text rest (name_writable name u) e in
    let inside = within text (start.next + length (escape (written name).text)) 60 rest (next_is text start.next (escape (written name).text) (60 ∷ rest) e) in
    let test : eqb (start.next + length (escape (written name).text)) (length text) ≡ false = grind (arith, nat_tests) in
    let name_is : decoded (is_encoded start.attribute) (written name).text ≡ name = ap (λ (x : Attribute). decoded (is_encoded x) (written name).text) a ∙ ap (λ (b : Bool). decoded b (written name).text) (encoded_is name) ∙ (written_back name u).bytes in
    rw (read, test, name_is, utf8_is name u, good) refl

-- the text of a name, as it is written, is UTF-8
pub valid_name : (name : List ℕ) → IsUtf8 name → IsUtf8 (escape (written name).text)
valid_name name u = escape_valid (written name).text (name_writable name u)
