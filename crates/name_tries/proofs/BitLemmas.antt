-- The bits of names: names that are alike up to a level, and names that differ.
use Rattle.std.proofs.Common.{List, Option, ◌≡◌, ◌≢◌, ℕ, zero, suc, ◌+◌, ◌-◌, ◌/◌, ◌%◌, ◌^◌, ◌<◌, ◌≤◌, true, false, ◌==◌, ◌||◌, get_or, Fits, w8, [], ◌∷◌, length, Some, None, slice_get, sym, ap, ◌∙◌, refl, subst, arith, inl, inr, shr-shr}
use Rattle.std.proofs.Math.Nat.{zero-div}
use Rattle.std.specs.List.{slice_index_or}
use Rattle.std.proofs.lemmas.Option.{get_or_from_slice_get}
use Rattle.std.proofs.lemmas.Bool.Decides.{nat_tests}
use Rattle.std.proofs.lemmas.Bool.{cases_eq}
use Rattle.name_tries.specs.Bits.{Name, AreBytes, bit_in, bit_of, level, AreAlike}

-- what a slice of bytes has
pub in_bytes : (xs : List ℕ) → ((i : ℕ) → Fits w8 (slice_index_or xs i 0)) → AreBytes xs
in_bytes xs fits i b is =
    let e : get_or xs i 0 ≡ b = get_or_from_slice_get xs i b 0 is in
    let f : Fits w8 b = subst (λ (n : ℕ). Fits w8 n) e (fits i) in
    omega (arith, f)

module _ (p : ℕ) where
  -- a name is alike to itself
  pub alike_self : (x : Name) → AreAlike p x x
  alike_self x b w nine lt = refl

  -- names that are alike are so either way round
  pub alike_back : (x y : Name) → AreAlike p x y → AreAlike p y x
  alike_back x y alike b w nine lt = sym (alike b w nine lt)

  -- names alike to a common one are alike
  pub alike_on : (x y z : Name) → AreAlike p x y → AreAlike p y z → AreAlike p x z
  alike_on x y z one other b w nine lt = one b w nine lt ∙ other b w nine lt

  -- names alike up to a level are so up to an earlier one
  pub alike_below : (q : ℕ) (x y : Name) → p ≤ q → AreAlike q x y → AreAlike p x y
  alike_below q x y le alike b w nine lt = alike b w nine (omega arith)

-- two bits at one level are one
pub same_level : (b w c v : ℕ) → w < 9 → v < 9 → level b w ≡ level c v → (b ≡ c) × (w ≡ v)
same_level b w c v w_nine v_nine same = (omega arith, omega arith)

-- ---- bytes that have the same bits

same_rest : (a b : ℕ) → (a % 2 == 1) ≡ (b % 2 == 1) → a % 2 ≡ b % 2
same_rest a b same = grind (arith, nat_tests)

same_half : (x y k : ℕ) → x / 2 ^ (k + 1) ≡ y / 2 ^ (k + 1) → x / 2 ^ k % 2 ≡ y / 2 ^ k % 2 → x / 2 ^ k ≡ y / 2 ^ k
same_half x y k half rest =
    let one : x / 2 ^ k / 2 ≡ x / 2 ^ (k + 1) = shr-shr x k 1 in
    let other : y / 2 ^ k / 2 ≡ y / 2 ^ (k + 1) = shr-shr y k 1 in
    omega (arith, one, other, half, rest)

-- a bit of a byte that is there, other than the first
pub bit_some : (b w : ℕ) → w ≢ 0 → bit_in (Some b) w ≡ (b / 2 ^ (8 - w) % 2 == 1)
bit_some b w apart = let fails : (w == 0) ≡ false = grind (arith, nat_tests, apart) in ap (λ v. v || (b / 2 ^ (8 - w) % 2 == 1)) fails

-- a 1 before the eight bits of a byte changes none of them, and is there itself
high : (b k : ℕ) → k < 8 → (256 + b) / 2 ^ k % 2 ≡ b / 2 ^ k % 2
high b zero lt = omega arith
high b (suc zero) lt = omega arith
high b (suc (suc zero)) lt = omega arith
high b (suc (suc (suc zero))) lt = omega arith
high b (suc (suc (suc (suc zero)))) lt = omega arith
high b (suc (suc (suc (suc (suc zero))))) lt = omega arith
high b (suc (suc (suc (suc (suc (suc zero)))))) lt = omega arith
high b (suc (suc (suc (suc (suc (suc (suc zero))))))) lt = omega arith
high b (suc (suc (suc (suc (suc (suc (suc (suc k)))))))) lt = let no : ⊥ = omega (arith, lt) in absurd no

-- the bits of a byte with a leading one are those of a name's byte
pub shifted_bit : (b w : ℕ) → b < 256 → w < 9 → ((256 + b) / 2 ^ (8 - w) % 2 == 1) ≡ bit_in (Some b) w
shifted_bit b zero byte nine = let one : (256 + b) / 2 ^ 8 % 2 ≡ 1 = omega (arith, byte) in ap (λ (n : ℕ). n == 1) one
shifted_bit b (suc w) byte nine =
    ap (λ (n : ℕ). n == 1) (high b (8 - suc w) (omega arith)) ∙ sym (bit_some b (suc w) (omega arith))

-- no byte has no 1
pub none_bit : (w : ℕ) → (0 / 2 ^ (8 - w) % 2 == 1) ≡ false
none_bit w = let none : 0 / 2 ^ (8 - w) ≡ 0 = zero-div (2 ^ (8 - w)) in ap (λ (n : ℕ). n % 2 == 1) none

-- numbers of nine bits of which the first ones are the same
module _ (a b most : ℕ) (a_nine : a < 512) (b_nine : b < 512) (same : (w : ℕ) → w < most → (a / 2 ^ (8 - w) % 2 == 1) ≡ (b / 2 ^ (8 - w) % 2 == 1)) where
  same_bit : (k j : ℕ) → k + j ≡ 8 → j < most → a / 2 ^ k % 2 ≡ b / 2 ^ k % 2
  same_bit k j is lt =
      let w_is : 8 - j ≡ k = omega arith in
      same_rest (a / 2 ^ k) (b / 2 ^ k) (subst (λ (n : ℕ). (a / 2 ^ n % 2 == 1) ≡ (b / 2 ^ n % 2 == 1)) w_is (same j lt))

  -- bytes that agree in their upper bits are the same when the lower ones are cut off
  pub same_above : (k j : ℕ) → k + j ≡ 8 → j < most → a / 2 ^ k ≡ b / 2 ^ k
  same_above k zero is lt = let k_is : k ≡ 8 = omega arith in subst (λ (n : ℕ). a / 2 ^ n ≡ b / 2 ^ n) (sym k_is) first
    where
      first : a / 2 ^ 8 ≡ b / 2 ^ 8
      first = let rest : a / 2 ^ 8 % 2 ≡ b / 2 ^ 8 % 2 = same_bit 8 0 refl lt in omega (arith, a_nine, b_nine, rest)
  same_above k (suc j) is lt = same_half a b k (same_above (k + 1) j (omega arith) (omega arith)) (same_bit k (suc j) is lt)

module _ (x y most : ℕ) (x_byte : x < 256) (y_byte : y < 256) (same : (w : ℕ) → w < most → bit_in (Some x) w ≡ bit_in (Some y) w) where
  same_of_eight : (w : ℕ) → w < most → (x / 2 ^ (8 - w) % 2 == 1) ≡ (y / 2 ^ (8 - w) % 2 == 1)
  same_of_eight zero lt = let none : x / 2 ^ 8 ≡ y / 2 ^ 8 = omega (arith, x_byte, y_byte) in ap (λ (n : ℕ). n % 2 == 1) none
  same_of_eight (suc w) lt = sym (bit_some x (suc w) (omega arith)) ∙ same (suc w) lt ∙ bit_some y (suc w) (omega arith)

  -- bytes of names that agree in upper bits are the same without the lower ones
  pub same_upper : (k j : ℕ) → k + j ≡ 8 → j < most → x / 2 ^ k ≡ y / 2 ^ k
  same_upper k j is lt = same_above x y most (omega (arith, x_byte)) (omega (arith, y_byte)) same_of_eight k j is lt

same_byte : (x y : ℕ) → x < 256 → y < 256 → ((w : ℕ) → w < 9 → bit_in (Some x) w ≡ bit_in (Some y) w) → x ≡ y
same_byte x y x_byte y_byte same = let e = same_upper x y 9 x_byte y_byte same 0 8 refl (omega arith) in omega (arith, e)

-- what is read at a byte is the same if all its bits are
pub bits_tell : (o p : Option ℕ) → ((b : ℕ) → o ≡ Some b → b < 256) → ((b : ℕ) → p ≡ Some b → b < 256)
    → ((w : ℕ) → w < 9 → bit_in o w ≡ bit_in p w) → o ≡ p
bits_tell None None o_byte p_byte same = refl
bits_tell None (Some y) o_byte p_byte same = let wrong : false ≡ true = same 0 (omega arith) in cc
bits_tell (Some x) None o_byte p_byte same = let wrong : true ≡ false = same 0 (omega arith) in cc
bits_tell (Some x) (Some y) o_byte p_byte same = ap (λ n. Some n) (same_byte x y (o_byte x refl) (p_byte y refl) same)

-- ---- names that have the same bytes

-- names of which each byte up to the end of one is the same, and none follows, are one
same_name : (x y : Name) (n : ℕ) → n ≡ length x → ((k : ℕ) → k ≤ n → slice_get x k ≡ slice_get y k) → x ≡ y
same_name [] [] n is same = refl
same_name [] (c ∷ y) n is same = let wrong : None ≡ Some c = same 0 (omega arith) in cc
same_name (b ∷ x) [] n is same = let wrong : Some b ≡ None = same 0 (omega arith) in cc
same_name (b ∷ x) (c ∷ y) n is same =
    let head : Some b ≡ Some c = same 0 (omega arith) in
    let rest = same_name x y (length x) refl (λ k le. same (suc k) (omega arith)) in
    cc

-- bits at bytes before one, and before one of its own bits
alike_at : (x y : Name) (byte within : ℕ) → ((k : ℕ) → k < byte → slice_get x k ≡ slice_get y k)
    → ((w : ℕ) → w < within → bit_of x byte w ≡ bit_of y byte w) → within < 9 → AreAlike (level byte within) x y
alike_at x y byte within bytes bits lt b w nine below = elim (cases_eq b byte) [
  | inl e ↦ subst (λ (n : ℕ). bit_of x n w ≡ bit_of y n w) (sym e) (bits w (omega arith))
  | inr apart ↦ ap (λ o. bit_in o w) (bytes b (omega arith))
]
