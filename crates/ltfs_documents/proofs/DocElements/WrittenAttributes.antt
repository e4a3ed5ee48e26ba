-- The key and the bytes of an extended attribute that are written are read again.
use Rattle.std.proofs.Common.{◌≡◌, ℕ, ◌+◌, Bool, true, false, eqb, cond, List, ◌∷◌, ◌++◌, length, drop, Some, Result, Ok, IsUtf8, refl, sym, ap, subst, ◌∙◌, arith}
use Rattle.std.specs.List.{list_all}
use Rattle.std.specs.Str.{chars, is_utf8}
use Rattle.std.proofs.lemmas.Bool.Decides.{nat_tests}
use Rattle.std.proofs.lemmas.Str.{IsUtf8-from_is_utf8}
use Rattle.std.proofs.lemmas.Bool.{and_parts}
use Rattle.base64.specs.Engines.{standard}
use Rattle.base64.specs.GeneralPurpose.{IsBytes, encode_of}
use Rattle.tape_types.specs.NodeKeys.Keys.{is_key}
use Rattle.ltfs_documents.specs.declared.doc_fields.starts.Attribute.TheVariants.{Base64, Plain}
use Rattle.ltfs_documents.specs.declared.doc_fields.starts.Start.{Start}
use Rattle.ltfs_documents.specs.declared.doc_fields.tags.Tag.TheVariants.{Key, Value}
use Rattle.ltfs_documents.specs.DocFields.Texts.{IsWritable, is_allowed}
use Rattle.ltfs_documents.specs.DocFields.Written.{escape}
use Rattle.ltfs_documents.proofs.DocFields.Again.{next_is, within}
use Rattle.ltfs_documents.proofs.DocFields.TextsAgain.{escape_valid, text_again}
use Rattle.ltfs_documents.specs.declared.doc_elements.errors.PieceErr.{PieceErr}
use Rattle.ltfs_documents.specs.declared.doc_elements.schema.Form.TheVariants as form
use Rattle.ltfs_documents.specs.DocElements.Pieces.{Val, bytes, words, bytes_in, bytes_told, is_base64}
use Rattle.ltfs_documents.specs.DocElements.Written.{bytes_text, bytes_type, is_text}
use Rattle.ltfs_documents.proofs.DocElements.Base64Lemmas.{encoded_back, encoded_raw, encoded_writable}
use Rattle.ltfs_documents.proofs.DocElements.WrittenItems.{ReadsBack}
use Rattle.ltfs_documents.proofs.DocElements.WrittenNames.{name_in_back, valid_name}

-- the key of an extended attribute is read again
pub key_back : (key : List ℕ) → IsUtf8 key → is_key key ≡ true → ReadsBack form.Key Key (words key)
key_back key u good = record { again = λ text from start rest a e. name_in_back form.Key key u good text from start rest a e; valid = valid_name key u }

-- how bytes are shown: by a text, in base64 or not, which is written with escapes
record IsShown (bs : List ℕ) : Type 0 where
  shown : List ℕ
  coded : Bool
  writable : IsWritable shown
  text : bytes_text bs ≡ escape shown
  kind : is_base64 (bytes_type bs) ≡ coded
  told : bytes_told coded shown ≡ Some bs

shown_by : (bs : List ℕ) → IsBytes bs → (b : Bool) → is_text bs ≡ b → IsShown bs
shown_by bs are true is =
    let parts = and_parts (is_utf8 bs) (list_all is_allowed (chars bs)) is in
    record {
      shown = bs;
      coded = false;
      writable = (IsUtf8-from_is_utf8 bs parts.0, parts.1);
      text = ap (λ (b : Bool). cond b (escape bs) (encode_of standard bs)) is;
      kind = ap (λ (b : Bool). is_base64 (cond b Plain Base64)) is;
      told = refl;
    }
shown_by bs are false is = record {
  shown = encode_of standard bs;
  coded = true;
  writable = encoded_writable bs are;
  text = ap (λ (b : Bool). cond b (escape bs) (encode_of standard bs)) is ∙ sym (encoded_raw bs are);
  kind = ap (λ (b : Bool). is_base64 (cond b Plain Base64)) is;
  told = encoded_back bs are;
}

shown_back : (shown bs : List ℕ) (coded : Bool) → IsWritable shown → bytes_told coded shown ≡ Some bs → (text : List ℕ) (start : Start) (rest : List ℕ) → is_base64 start.attribute ≡ coded → drop start.next text ≡ escape shown ++ 60 ∷ rest
    → bytes_in start text ≡ Ok (bytes bs, start.next + length (escape shown))
unfolding bytes_in
shown_back shown bs coded may told text start rest a e =
    let read = text_again text start.next shown rest may e in
    let inside = within text (start.next + length (escape shown)) 60 rest (next_is text start.next (escape shown) (60 ∷ rest) e) in
    let test : eqb (start.next + length (escape shown)) (length text) ≡ false = grind (arith, nat_tests) in
    let value : bytes_told (is_base64 start.attribute) shown ≡ Some bs = ap (λ (b : Bool). bytes_told b shown) a ∙ told in
    rw (read, test, value) refl

again_by : (bs : List ℕ) → IsShown bs → (text : List ℕ) (start : Start) (rest : List ℕ) → start.attribute ≡ bytes_type bs → drop start.next text ≡ bytes_text bs ++ 60 ∷ rest
    → bytes_in start text ≡ Ok (bytes bs, start.next + length (bytes_text bs))
again_by bs s text start rest a e =
    let here : drop start.next text ≡ escape s.shown ++ 60 ∷ rest = e ∙ ap (λ (l : List ℕ). l ++ 60 ∷ rest) s.text in
    let kind : is_base64 start.attribute ≡ s.coded = ap is_base64 a ∙ s.kind in
    shown_back s.shown bs s.coded s.writable s.told text start rest kind here
    ∙ ap {B = Result (Val × ℕ) PieceErr} (λ (l : List ℕ). Ok (bytes bs, start.next + length l)) (sym s.text)

-- the value of an extended attribute is read again
pub value_back : (bs : List ℕ) → IsBytes bs → ReadsBack form.Value Value (bytes bs)
value_back bs are =
    let s = shown_by bs are (is_text bs) refl in
    record { again = λ text from start rest a e. again_by bs s text start rest a e; valid = subst IsUtf8 (sym s.text) (escape_valid s.shown s.writable) }
