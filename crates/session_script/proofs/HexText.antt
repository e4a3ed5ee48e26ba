-- Bytes in hexadecimal.
use Rattle.std.proofs.Common.{◌≡◌, ℕ, zero, suc, ◌/◌, ◌%◌, ◌<◌, ◌≤◌, ◌==◌, Bool, true, false, List, [], ◌∷◌, get_or, ap, ◌∙◌, refl, arith, ⊎_elim}
use Rattle.std.specs.Prelude.{◌&&◌, All, Result, Ok, Err, IsOk, OnOk}
use Rattle.std.specs.List.{flat_map}
use Rattle.std.specs.Fmt.{digit_glyph}
use Rattle.std.proofs.lemmas.Bool.{and_parts, cases_lt, eqb-true}
use Rattle.hex.specs.Hex.{encode_with, encode_lower, lower_digits}
use Rattle.session_script.specs.LogText.{hex_byte}

abbrev all_same : ℕ → Bool
all_same zero = true
all_same (suc n) = (get_or lower_digits n 0 == digit_glyph false n) && all_same n

same_at : (n d : ℕ) → all_same n ≡ true → d < n → get_or lower_digits d 0 ≡ digit_glyph false d
same_at zero d h lt = absurd (omega arith)
same_at (suc n) d h lt =
    let parts = and_parts (get_or lower_digits n 0 == digit_glyph false n) (all_same n) h in
    ⊎_elim (λ (below : d < n). same_at n d parts.1 below) (λ (top : n ≤ d). let e : d ≡ n = omega arith in rw e (eqb-true _ _ parts.0)) (cases_lt d n)

digit_same : (d : ℕ) → d < 16 → get_or lower_digits d 0 ≡ digit_glyph false d
digit_same d lt = same_at 16 d refl lt

-- the encoder writes each byte as its two hexadecimal digits
pub encode_lower-hex_byte : (bytes : List ℕ) → All (λ b. b < 256) bytes → encode_lower bytes ≡ flat_map hex_byte bytes
unfolding encode_with
encode_lower-hex_byte [] small = refl
encode_lower-hex_byte (b ∷ bytes) small =
    let first : b < 256 = small 0 b (omega arith) in
    ap (λ d. d ∷ get_or lower_digits (b % 16) 0 ∷ encode_lower bytes) (digit_same (b / 16) (omega arith))
    ∙ ap (λ d. digit_glyph false (b / 16) ∷ d ∷ encode_lower bytes) (digit_same (b % 16) (omega arith))
    ∙ ap (λ l. digit_glyph false (b / 16) ∷ digit_glyph false (b % 16) ∷ l) (encode_lower-hex_byte bytes (λ k d lt. small (suc k) d (omega arith)))

-- so the room of an encoder that ended well has these digits
pub encoded : {T E : Type 0} (r : Result T E) (bytes room : List ℕ) → IsOk r → OnOk r (room ≡ encode_lower bytes) → All (λ b. b < 256) bytes → room ≡ flat_map hex_byte bytes
encoded (Ok v) bytes room ended written small = written ∙ encode_lower-hex_byte bytes small
encoded (Err e) bytes room ended written small = cc
