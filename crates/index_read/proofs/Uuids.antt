-- The number of a UUID that is read is below 2^128.
use Rattle.std.proofs.Common.{◌≡◌, ℕ, zero, suc, ◌+◌, ◌*◌, ◌<◌, ◌^◌, Bool, true, false, cond, ◌&&◌, ◌==◌, List, [], ◌∷◌, length, Option, Some, None, option_map, refl, ap, subst, ◌∙◌, arith}
use Rattle.std.specs.Int.{w128, from_be_bytes}
use Rattle.std.specs.List.{list_all, slice_index}
use Rattle.std.proofs.lemmas.Bool.Decides.{nat_tests}
use Rattle.std.proofs.lemmas.Bool.{and_parts}
use Rattle.std.proofs.lemmas.Option.{same_Some}
use Rattle.uuid.specs.Text.{by_index, byte_of_digits, digits_of, has_hyphens, is_hex_digit, parsed_hyphenated, parsed_simple, value_of}
use Rattle.uuid.proofs.TextLemmas.{by_index_at}
use Rattle.tape_types.specs.Uuids.{uuid_in}

digit_fits : (c : ℕ) → is_hex_digit c ≡ true → value_of c < 16
digit_fits c e = grind (arith, nat_tests)

digits_fit : (hex : List ℕ) → list_all is_hex_digit hex ≡ true → (k : ℕ) → value_of (slice_index hex k) < 16
digits_fit [] e k = omega arith
digits_fit (c ∷ hex) e zero = digit_fits c (and_parts (is_hex_digit c) (list_all is_hex_digit hex) e).0
digits_fit (c ∷ hex) e (suc k) = digits_fit hex (and_parts (is_hex_digit c) (list_all is_hex_digit hex) e).1 k

byte_fits : (hex : List ℕ) → list_all is_hex_digit hex ≡ true → (j : ℕ) → byte_of_digits hex j < 256
byte_fits hex e j = omega (arith, digits_fit hex e (2 * j), digits_fit hex e (2 * j + 1))

-- sixteen bytes show a number below 2^128
sixteen : (a b c d e f g h i j k l m n o p : ℕ) → a < 256 → b < 256 → c < 256 → d < 256 → e < 256 → f < 256 → g < 256 → h < 256 → i < 256 → j < 256 → k < 256 → l < 256 → m < 256 → n < 256 → o < 256 → p < 256
    → a * 256 ^ 15 + b * 256 ^ 14 + c * 256 ^ 13 + d * 256 ^ 12 + e * 256 ^ 11 + f * 256 ^ 10 + g * 256 ^ 9 + h * 256 ^ 8 + i * 256 ^ 7 + j * 256 ^ 6 + k * 256 ^ 5 + l * 256 ^ 4 + m * 256 ^ 3 + n * 256 ^ 2 + o * 256 ^ 1 + p < 2 ^ 128
sixteen a b c d e f g h i j k l m n o p la lb lc ld le lf lg lh li lj lk ll lm ln lo lp = omega arith

bytes_fit : (bytes : List ℕ) → ((i : ℕ) → i < 16 → slice_index bytes i < 256) → from_be_bytes w128 bytes < 2 ^ 128
bytes_fit bytes h =
    let at = λ (i : ℕ). slice_index bytes i in
    sixteen (at 0) (at 1) (at 2) (at 3) (at 4) (at 5) (at 6) (at 7) (at 8) (at 9) (at 10) (at 11) (at 12) (at 13) (at 14) (at 15)
    (h 0 (omega arith)) (h 1 (omega arith)) (h 2 (omega arith)) (h 3 (omega arith)) (h 4 (omega arith)) (h 5 (omega arith)) (h 6 (omega arith)) (h 7 (omega arith))
    (h 8 (omega arith)) (h 9 (omega arith)) (h 10 (omega arith)) (h 11 (omega arith)) (h 12 (omega arith)) (h 13 (omega arith)) (h 14 (omega arith)) (h 15 (omega arith))

some_if : {X : Type 0} (b : Bool) (o : Option X) (x : X) → cond b o None ≡ Some x → (b ≡ true) × (o ≡ Some x)
some_if true o x e = (refl, e)
some_if false o x e = absurd cc

some_mapped : {X Y : Type 0} (f : X → Y) (o : Option X) (y : Y) → option_map f o ≡ Some y → (x : X) × (o ≡ Some x) × (f x ≡ y)
some_mapped f None y e = absurd cc
some_mapped f (Some x) y e = let same : f x ≡ y = cc (e) in (x, refl, same)

-- a UUID that is read is a number below 2^128
pub uuid_fits : (text : List ℕ) (n : ℕ) → uuid_in text ≡ Some n → n < 2 ^ 128
uuid_fits text n e =
    let hex = digits_of text in
    let a = some_mapped (from_be_bytes w128) (parsed_hyphenated text) n e in
    let b = some_if ((length text == 36) && has_hyphens text) (parsed_simple hex) a.0 a.1 in
    let c = some_if ((length hex == 32) && list_all is_hex_digit hex) (Some (by_index 16 (byte_of_digits hex))) a.0 b.1 in
    let digits = (and_parts (length hex == 32) (list_all is_hex_digit hex) c.0).1 in
    let bytes : by_index 16 (byte_of_digits hex) ≡ a.0 = same_Some _ _ c.1 in
    let fits = bytes_fit (by_index 16 (byte_of_digits hex)) (λ i less. rw (by_index_at 16 (byte_of_digits hex) i 0 less) (byte_fits hex digits i)) in
    subst (λ (m : ℕ). m < 2 ^ 128) (ap (from_be_bytes w128) bytes ∙ a.2) fits
