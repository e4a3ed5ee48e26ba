-- Base64: what a text in it stands for, and that what is written in it is read again.
use Rattle.std.proofs.Common.{◌≡◌, ℕ, zero, suc, ◌*◌, ◌+◌, ◌/◌, ◌%◌, ◌<◌, Bool, true, false, eqb, nat_le, nat_lt, not, cond, ◌&&◌, ◌==◌, List, [], ◌∷◌, ◌++◌, length, replicate, slice_index, filter, Option, Some, None, Result, Ok, Err, refl, ap, ◌∙◌, arith}
use Rattle.std.specs.List.{list_all}
use Rattle.std.specs.Result.{result_ok}
use Rattle.std.proofs.lemmas.Bool.{and_from, and_parts}
use Rattle.std.proofs.lemmas.Bool.Decides.{nat_tests}
use Rattle.std.proofs.lemmas.Str.{IsUtf8-from_ascii, chars-IsAscii}
use Rattle.base64.specs.declared.decode.DecodeError.{DecodeError}
use Rattle.base64.specs.Engines.{standard}
use Rattle.base64.specs.GeneralPurpose.{IsBytes, decode_of, decoded_of, encode_of, engine_symbols}
use Rattle.base64.specs.Rfc4648.{encode_symbols, padding_len}
use Rattle.base64.proofs.EngineFacts.{IsAscii-encode_of, decode_of-encode_of, decode_of_strict}
use Rattle.base64.proofs.Tables.{all_below_at}
use Rattle.ltfs_documents.specs.DocFields.Space.{is_space}
use Rattle.ltfs_documents.specs.DocFields.Texts.{IsWritable, is_allowed}
use Rattle.ltfs_documents.specs.DocFields.Written.{escape, escaped}
use Rattle.ltfs_documents.specs.declared.doc_elements.errors.PieceErr.TheVariants as errors
use Rattle.ltfs_documents.specs.DocElements.Pieces.{from_base64, some_bytes, without_space}

-- ---- what a text stands for

-- a text that is decoded stands for its bytes, and a text that isn't for none
pub told : (text bs : List ℕ) → decode_of standard (without_space text) ≡ Ok bs → from_base64 text ≡ Some bs
unfolding from_base64 decoded_of
told text bs is = ap result_ok is

-- bytes that were found are given
pub bytes_found : (at : ℕ) (o : Option (List ℕ)) (bs : List ℕ) → o ≡ Some bs → some_bytes at o ≡ Ok bs
bytes_found at o bs is = ap (some_bytes at) is

-- where no bytes were found, the text is refused at its place
pub bytes_missed : (at : ℕ) (o : Option (List ℕ)) → o ≡ None → some_bytes at o ≡ Err (errors.Syntax at)
bytes_missed at o is = ap (some_bytes at) is

-- a result of which the bytes are kept has succeeded with them
pub from_ok : (r : Result (List ℕ) DecodeError) (bs : List ℕ) → result_ok r ≡ Some bs → r ≡ Ok bs
from_ok (Ok x) bs e =
    let both_are : ◌≡◌ {A = Option (List ℕ)} (Some x) (Some bs) = e in
    let same : x ≡ bs = cc in
    ap {B = Result (List ℕ) DecodeError} (λ y. Ok y) same
from_ok (Err d) bs e = absurd (let bad : ◌≡◌ {A = Option (List ℕ)} None (Some bs) = e in cc)

-- the bytes of a text in base64 are the decoding of its symbols without white space
pub decoded : (text bs : List ℕ) → from_base64 text ≡ Some bs → decode_of standard (without_space text) ≡ Ok bs
unfolding from_base64 decoded_of
decoded text bs e = from_ok (decode_of standard (without_space text)) bs e

-- texts that differ in white space alone stand for the same
pub same_symbols : (text other : List ℕ) → without_space text ≡ without_space other → from_base64 text ≡ from_base64 other
unfolding from_base64
same_symbols text other same = ap (decoded_of standard) same

-- ---- no symbol is white space or needs an escape

abbrev is_plain : ℕ → Bool
is_plain b = nat_lt 32 b && nat_lt b 127 && not (b == 38) && not (b == 60) && not (b == 62)

cons_plain : (x : ℕ) (xs : List ℕ) → is_plain x ≡ true → list_all is_plain xs ≡ true → list_all is_plain (x ∷ xs) ≡ true
cons_plain x xs p ps = and_from (is_plain x) (list_all is_plain xs) p ps

plain_append : (xs ys : List ℕ) → list_all is_plain xs ≡ true → list_all is_plain ys ≡ true → list_all is_plain (xs ++ ys) ≡ true
plain_append [] ys e f = f
plain_append (x ∷ xs) ys e f = let p = and_parts (is_plain x) (list_all is_plain xs) e in cons_plain x (xs ++ ys) p.0 (plain_append xs ys p.1 f)

abbrev alphabet : List ℕ
alphabet = engine_symbols standard

abbrev symbol_of : ℕ → ℕ
symbol_of v = slice_index alphabet v

symbol : (v : ℕ) → v < 64 → is_plain (symbol_of v) ≡ true
symbol v lt = all_below_at (λ k. is_plain (symbol_of k)) 64 v refl lt

plain_symbols : (m : List ℕ) → IsBytes m → list_all is_plain (encode_symbols alphabet m) ≡ true
unfolding encode_symbols
plain_symbols [] are = refl
plain_symbols (a ∷ []) are =
    let la : a < 256 = are 0 in
    cons_plain (symbol_of (a / 4)) (symbol_of (a % 4 * 16) ∷ []) (symbol (a / 4) (omega (arith, la)))
    (cons_plain (symbol_of (a % 4 * 16)) [] (symbol (a % 4 * 16) (omega (arith, la))) refl)
plain_symbols (a ∷ b ∷ []) are =
    let la : a < 256 = are 0 in
    let lb : b < 256 = are 1 in
    cons_plain (symbol_of (a / 4)) (symbol_of (a % 4 * 16 + b / 16) ∷ symbol_of (b % 16 * 4) ∷ []) (symbol (a / 4) (omega (arith, la)))
    (cons_plain (symbol_of (a % 4 * 16 + b / 16)) (symbol_of (b % 16 * 4) ∷ []) (symbol (a % 4 * 16 + b / 16) (omega (arith, la, lb)))
    (cons_plain (symbol_of (b % 16 * 4)) [] (symbol (b % 16 * 4) (omega (arith, lb))) refl))
plain_symbols (a ∷ b ∷ c ∷ rest) are =
    let la : a < 256 = are 0 in
    let lb : b < 256 = are 1 in
    let lc : c < 256 = are 2 in
    let more : List ℕ = encode_symbols alphabet rest in
    cons_plain (symbol_of (a / 4)) (symbol_of (a % 4 * 16 + b / 16) ∷ symbol_of (b % 16 * 4 + c / 64) ∷ symbol_of (c % 64) ∷ more) (symbol (a / 4) (omega (arith, la)))
    (cons_plain (symbol_of (a % 4 * 16 + b / 16)) (symbol_of (b % 16 * 4 + c / 64) ∷ symbol_of (c % 64) ∷ more) (symbol (a % 4 * 16 + b / 16) (omega (arith, la, lb)))
    (cons_plain (symbol_of (b % 16 * 4 + c / 64)) (symbol_of (c % 64) ∷ more) (symbol (b % 16 * 4 + c / 64) (omega (arith, lb, lc)))
    (cons_plain (symbol_of (c % 64)) more (symbol (c % 64) (omega (arith, lc))) (plain_symbols rest (λ i. are (suc (suc (suc i))))))))

plain_padding : (n : ℕ) → list_all is_plain (replicate n 61) ≡ true
plain_padding zero = refl
plain_padding (suc n) = cons_plain 61 (replicate n 61) refl (plain_padding n)

plain_encoded : (bs : List ℕ) → IsBytes bs → list_all is_plain (encode_of standard bs) ≡ true
plain_encoded bs are = plain_append (encode_symbols alphabet bs) (replicate (padding_len (length bs)) 61) (plain_symbols bs are) (plain_padding (padding_len (length bs)))

past_space : (b : ℕ) → is_plain b ≡ true → 32 < b
past_space b h = grind (arith, nat_tests)

plain_space : (b : ℕ) → is_plain b ≡ true → is_space b ≡ false
plain_space b h = let low = past_space b h in grind (arith, nat_tests)

plain_allowed : (b : ℕ) → is_plain b ≡ true → is_allowed b ≡ true
plain_allowed b h =
    let low = past_space b h in
    let tab : eqb b 9 ≡ false = grind (arith, nat_tests) in
    let lf : eqb b 10 ≡ false = grind (arith, nat_tests) in
    let cr : eqb b 13 ≡ false = grind (arith, nat_tests) in
    let least : nat_le 32 b ≡ true = grind (arith, nat_tests) in
    let most : nat_le b 0xD7FF ≡ true = grind (arith, nat_tests) in
    rw (tab, lf, cr, least, most) refl

plain_escaped : (b : ℕ) → is_plain b ≡ true → escaped b ≡ b ∷ []
plain_escaped b h =
    let amp : eqb b 38 ≡ false = grind (arith, nat_tests) in
    let lt : eqb b 60 ≡ false = grind (arith, nat_tests) in
    let gt : eqb b 62 ≡ false = grind (arith, nat_tests) in
    let cr : eqb b 13 ≡ false = grind (arith, nat_tests) in
    rw (amp, lt, gt, cr) refl

unspaced : (xs : List ℕ) → list_all is_plain xs ≡ true → without_space xs ≡ xs
unspaced [] e = refl
unspaced (x ∷ xs) e = let p = and_parts (is_plain x) (list_all is_plain xs) e in rw (plain_space x p.0) (ap (λ (l : List ℕ). x ∷ l) (unspaced xs p.1))

unescaped : (xs : List ℕ) → list_all is_plain xs ≡ true → escape xs ≡ xs
unescaped [] e = refl
unescaped (x ∷ xs) e =
    let p = and_parts (is_plain x) (list_all is_plain xs) e in
    ap (λ (l : List ℕ). l ++ escape xs) (plain_escaped x p.0) ∙ ap (λ (l : List ℕ). x ∷ l) (unescaped xs p.1)

all_allowed : (xs : List ℕ) → list_all is_plain xs ≡ true → list_all is_allowed xs ≡ true
all_allowed [] e = refl
all_allowed (x ∷ xs) e =
    let p = and_parts (is_plain x) (list_all is_plain xs) e in
    and_from (is_allowed x) (list_all is_allowed xs) (plain_allowed x p.0) (all_allowed xs p.1)

-- ---- what is written is read again

-- base64 needs no escapes
pub encoded_raw : (bs : List ℕ) → IsBytes bs → escape (encode_of standard bs) ≡ encode_of standard bs
encoded_raw bs are = unescaped (encode_of standard bs) (plain_encoded bs are)

-- base64 has only characters that a document may have
pub encoded_writable : (bs : List ℕ) → IsBytes bs → IsWritable (encode_of standard bs)
encoded_writable bs are =
    let ascii = IsAscii-encode_of standard bs in
    (IsUtf8-from_ascii (encode_of standard bs) ascii, ap (list_all is_allowed) (chars-IsAscii (encode_of standard bs) ascii) ∙ all_allowed (encode_of standard bs) (plain_encoded bs are))

-- bytes that are written in base64 are read again
pub encoded_back : (bs : List ℕ) → IsBytes bs → from_base64 (encode_of standard bs) ≡ Some bs
encoded_back bs are =
    told (encode_of standard bs) bs (ap (decode_of standard) (unspaced (encode_of standard bs) (plain_encoded bs are)) ∙ decode_of-encode_of standard bs refl are)

-- ---- what is read has one text

-- a byte in front of bytes
pub cons_bytes : (x : ℕ) (xs : List ℕ) → x < 256 → IsBytes xs → IsBytes (x ∷ xs)
cons_bytes x xs lt are zero = lt
cons_bytes x xs lt are (suc i) = are i

-- some bytes chosen out of bytes are bytes
pub kept_bytes : (p : ℕ → Bool) (xs : List ℕ) → IsBytes xs → IsBytes (filter p xs)
kept_bytes p [] are = are
kept_bytes p (x ∷ xs) are =
    let rest = kept_bytes p xs (λ i. are (suc i)) in
    elim (p x) as (λ b. IsBytes (cond b (x ∷ filter p xs) (filter p xs))) [ true ↦ cons_bytes x (filter p xs) (are 0) rest | false ↦ rest ]

-- a text in base64, without its white space, is the encoding of the bytes it stands for
pub one_text : (text bs : List ℕ) → IsBytes text → from_base64 text ≡ Some bs → without_space text ≡ encode_of standard bs
one_text text bs are e = decode_of_strict standard (without_space text) bs (refl, refl) (kept_bytes (λ b. not (is_space b)) text are) (decoded text bs e)
