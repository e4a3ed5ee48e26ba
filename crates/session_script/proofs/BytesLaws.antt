-- The bytes of a write, as they are read and as they are spelled.
use Rattle.std.proofs.Common.{◌≡◌, ◌⊎◌, ⊎_elim, inl, inr, ℕ, ◌+◌, ◌*◌, ◌<◌, ◌≤◌, Bool, true, false, cond, eqb, List, [], ◌∷◌, ◌++◌, length, drop, replicate, sym, ap, ◌∙◌, refl, subst, arith, Some, None}
use Rattle.std.specs.Prelude.{Option, ◌&&◌, option_and_then, nat_eq, codes}
use Rattle.std.specs.Option.{option_map}
use Rattle.std.specs.Char.{digit_value, is_digit}
use Rattle.std.specs.List.{starts_with}
use Rattle.std.proofs.lemmas.Bool.{and_parts, cases_lt, eqb-true}
use Rattle.std.proofs.lemmas.Bool.Decides.{nat_tests, Decides-eqb}
use Rattle.std.proofs.lemmas.Slice.Eq.{starts_is}
use Rattle.session_script.specs.Words.{is_empty, number_of, hex_value, hex_bytes, text_bytes, fill_bytes, bytes_of}
use Rattle.session_script.specs.ScriptText.{IsHexDigit, SpellsByte, SpellsHex, IsHexWord, IsTextWord, IsFillWord, SpellsBytes, SpellsNumber}
use Rattle.session_script.proofs.NumberLaws.{some_if, number_found, number_only}
use Rattle.session_script.proofs.PathLaws.{not_empty, empty_no, none_unless}

digit_found : (c : ℕ) → is_digit c 16 ≡ true → IsHexDigit c (digit_value c)
digit_found c h = ⊎_elim
    (λ (small : c < 58). inl (grind (arith, nat_tests), grind (arith, nat_tests)))
    (λ (large : 58 ≤ c). ⊎_elim
    (λ (upper : c < 91). inr (inr (grind (arith, nat_tests), grind (arith, nat_tests), grind (arith, nat_tests))))
    (λ (lower : 91 ≤ c). inr (inl (grind (arith, nat_tests), grind (arith, nat_tests), grind (arith, nat_tests))))
    (cases_lt c 91))
    (cases_lt c 58)

digit_only : (c v : ℕ) → IsHexDigit c v → (is_digit c 16 ≡ true) × (digit_value c ≡ v)
digit_only c v h = ⊎_elim
    (λ (small : (v < 10) × (c ≡ 48 + v)). (grind (arith, nat_tests), grind (arith, nat_tests)))
    (λ letter. ⊎_elim
    (λ (lower : (10 ≤ v) × (v < 16) × (c ≡ 87 + v)). (grind (arith, nat_tests), grind (arith, nat_tests)))
    (λ (upper : (10 ≤ v) × (v < 16) × (c ≡ 55 + v)). (grind (arith, nat_tests), grind (arith, nat_tests)))
    letter)
    h

byte_found : (high low byte : ℕ) → hex_value high low ≡ Some byte → SpellsByte high low byte
byte_found high low byte e =
    let parts = some_if (is_digit high 16 && is_digit low 16) (16 * digit_value high + digit_value low) byte e in
    let both = and_parts (is_digit high 16) (is_digit low 16) parts.0 in
    (digit_value high, digit_value low, digit_found high both.0, digit_found low both.1, sym parts.1)

byte_only : (high low byte : ℕ) → SpellsByte high low byte → hex_value high low ≡ Some byte
byte_only high low byte h =
    let first = digit_only high h.0 h.2 in
    let second = digit_only low h.1 h.3 in
    ap (λ b. cond (b && is_digit low 16) (Some (16 * digit_value high + digit_value low)) None) first.0
    ∙ ap (λ b. cond b (Some (16 * digit_value high + digit_value low)) None) second.0
    ∙ ap (λ d. Some (16 * d + digit_value low)) first.1 ∙ ap (λ d. Some (16 * h.0 + d)) second.1 ∙ ap Some (sym h.4)

hex_found : (digits bytes : List ℕ) → hex_bytes digits ≡ Some bytes → SpellsHex digits bytes
hex_found [] [] e = refl
hex_found [] (byte ∷ bytes) e = cc
hex_found (d ∷ []) bytes e = cc
hex_found (high ∷ low ∷ rest) bytes e = at (hex_value high low) refl (hex_bytes rest) refl e (λ bs is. hex_found rest bs is)
  where
    at : (o : Option ℕ) → hex_value high low ≡ o → (os : Option (List ℕ)) → hex_bytes rest ≡ os → option_and_then (λ byte. option_map (λ bs. byte ∷ bs) os) o ≡ Some bytes
        → ((bs : List ℕ) → hex_bytes rest ≡ Some bs → SpellsHex rest bs) → SpellsHex (high ∷ low ∷ rest) bytes
    at None is os are h more = cc
    at (Some byte) is None are h more = cc
    at (Some byte) is (Some bs) are h more =
        let same : byte ∷ bs ≡ bytes = cc in
        subst (SpellsHex (high ∷ low ∷ rest)) same (high, low, rest, refl, byte_found high low byte is, more bs are)

hex_only : (digits bytes : List ℕ) → SpellsHex digits bytes → hex_bytes digits ≡ Some bytes
hex_only digits [] h = ap hex_bytes h
hex_only digits (byte ∷ bytes) h =
    ap hex_bytes h.3 ∙ ap (option_and_then (λ b. option_map (λ bs. b ∷ bs) (hex_bytes h.2))) (byte_only h.0 h.1 byte h.4) ∙ ap (option_map (λ bs. byte ∷ bs)) (hex_only h.2 bytes h.5)

text_found : (text bytes : List ℕ) → text_bytes text ≡ Some bytes → (text ≡ bytes) × (1 ≤ length bytes)
text_found text bytes e =
    let parts = none_unless (is_empty text) (Some text) bytes e in
    let same : text ≡ bytes = cc in (same, subst (λ t. 1 ≤ length t) same (not_empty text parts.0))

fill_found : (fill bytes : List ℕ) → fill_bytes fill ≡ Some bytes
    → (high : ℕ) × (low : ℕ) × (count : List ℕ) × (byte : ℕ) × (n : ℕ) × (fill ≡ high ∷ low ∷ 58 ∷ count) × SpellsByte high low byte × SpellsNumber count n × (bytes ≡ replicate n byte)
fill_found [] bytes e = cc
fill_found (high ∷ []) bytes e = cc
fill_found (high ∷ low ∷ []) bytes e = cc
fill_found (high ∷ low ∷ colon ∷ count) bytes e = outer (eqb colon 58) refl e
  where
    inner : (o : Option ℕ) → hex_value high low ≡ o → (on : Option ℕ) → number_of count ≡ on → colon ≡ 58 → option_and_then (λ byte. option_map (λ n. replicate n byte) on) o ≡ Some bytes
        → (h : ℕ) × (l : ℕ) × (c : List ℕ) × (byte : ℕ) × (n : ℕ) × ((high ∷ low ∷ colon ∷ count) ≡ h ∷ l ∷ 58 ∷ c) × SpellsByte h l byte × SpellsNumber c n × (bytes ≡ replicate n byte)
    inner None is on are colon_is h = cc
    inner (Some byte) is None are colon_is h = cc
    inner (Some byte) is (Some n) are colon_is h =
        let same : bytes ≡ replicate n byte = cc in
        (high, low, count, byte, n, ap (λ c. high ∷ low ∷ c ∷ count) colon_is, byte_found high low byte is, number_found count n are, same)

    outer : (b : Bool) → eqb colon 58 ≡ b → cond b (option_and_then (λ byte. option_map (λ n. replicate n byte) (number_of count)) (hex_value high low)) None ≡ Some bytes
        → (h : ℕ) × (l : ℕ) × (c : List ℕ) × (byte : ℕ) × (n : ℕ) × ((high ∷ low ∷ colon ∷ count) ≡ h ∷ l ∷ 58 ∷ c) × SpellsByte h l byte × SpellsNumber c n × (bytes ≡ replicate n byte)
    outer true is h = inner (hex_value high low) refl (number_of count) refl (eqb-true colon 58 is) h
    outer false is h = cc

-- the word begins so, and what is behind that
begins : (word front : List ℕ) → starts_with nat_eq word front ≡ true → word ≡ front ++ drop (length front) word
begins word front h = (starts_is Decides-eqb word front (starts_with nat_eq word front) refl).0 h

-- a word that is read as bytes spells them
pub bytes_found : (word bytes : List ℕ) → bytes_of word ≡ Some bytes → SpellsBytes word bytes
bytes_found word bytes e = first (starts_with nat_eq word (codes "hex:")) refl e
  where
    third : (b : Bool) → starts_with nat_eq word (codes "fill:") ≡ b → cond b (fill_bytes (drop 5 word)) None ≡ Some bytes → SpellsBytes word bytes
    third true is h =
        let found = fill_found (drop 5 word) bytes h in
        inr (inr (found.0, found.1, found.2, found.3, found.4, begins word (codes "fill:") is ∙ ap (λ l. codes "fill:" ++ l) found.5, found.6, found.7, found.8))
    third false is h = cc

    second : (b : Bool) → starts_with nat_eq word (codes "text:") ≡ b → cond b (text_bytes (drop 5 word)) (cond (starts_with nat_eq word (codes "fill:")) (fill_bytes (drop 5 word)) None) ≡ Some bytes
        → SpellsBytes word bytes
    second true is h =
        let found = text_found (drop 5 word) bytes h in
        inr (inl (begins word (codes "text:") is ∙ ap (λ l. codes "text:" ++ l) found.0, found.1))
    second false is h = third (starts_with nat_eq word (codes "fill:")) refl h

    first : (b : Bool) → starts_with nat_eq word (codes "hex:") ≡ b
        → cond b (hex_bytes (drop 4 word)) (cond (starts_with nat_eq word (codes "text:")) (text_bytes (drop 5 word)) (cond (starts_with nat_eq word (codes "fill:")) (fill_bytes (drop 5 word)) None)) ≡ Some bytes
        → SpellsBytes word bytes
    first true is h = inl (drop 4 word, begins word (codes "hex:") is, hex_found (drop 4 word) bytes h)
    first false is h = second (starts_with nat_eq word (codes "text:")) refl h

-- a word that spells bytes is read as these
pub bytes_only : (word bytes : List ℕ) → SpellsBytes word bytes → bytes_of word ≡ Some bytes
bytes_only word bytes h = ⊎_elim
    (λ (hex : IsHexWord word bytes). ap bytes_of hex.1 ∙ hex_only hex.0 bytes hex.2)
    (λ others. ⊎_elim
    (λ (text : IsTextWord word bytes). ap bytes_of text.0 ∙ ap (λ b. cond b None (Some bytes)) (empty_no bytes text.1))
    (λ (fill : IsFillWord word bytes).
    ap bytes_of fill.5 ∙ ap (λ o. option_and_then (λ byte. option_map (λ n. replicate n byte) (number_of fill.2)) o) (byte_only fill.0 fill.1 fill.3 fill.6)
    ∙ ap (option_map (λ n. replicate n fill.3)) (number_only fill.2 fill.4 fill.7) ∙ ap Some (sym fill.8))
    others)
    h

-- a word that spells bytes is not empty
pub bytes_some : (word bytes : List ℕ) → SpellsBytes word bytes → 1 ≤ length word
bytes_some word bytes h = ⊎_elim
    (λ (hex : IsHexWord word bytes). rw hex.1 (omega arith))
    (λ (others : IsTextWord word bytes ⊎ IsFillWord word bytes). ⊎_elim (λ (text : IsTextWord word bytes). rw text.0 (omega arith)) (λ (fill : IsFillWord word bytes). rw fill.5 (omega arith)) others)
    h
