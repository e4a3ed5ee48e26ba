-- Numbers of a fixed count of decimal digits.
use Rattle.std.proofs.Common.{◌≡◌, ℕ, zero, suc, ◌+◌, ◌-◌, ◌*◌, ◌/◌, ◌%◌, ◌^◌, ◌<◌, ◌≤◌, List, [], ◌∷◌, ◌++◌, length, refl, sym, ap, ◌∙◌, subst, arith, length-append, get_or, set, take, drop, true, inl, inr}
use Rattle.std.specs.Char.{is_ascii_digit}
use Rattle.std.proofs.lemmas.Bool.{cases_order}
use Rattle.std.proofs.lemmas.List.{drop-set, take_more}
use Rattle.std.proofs.Math.ListN.{get_or-append}
use Rattle.std.proofs.Math.Seq.{append_snoc, get_or-append_seam}
use Rattle.std.proofs.Math.Nat.{pow-suc}
use Rattle.tape_types.specs.Times.{digits}

-- a number in a fixed count of digits has that count of characters
pub length-digits : (width n : ℕ) → length (digits width n) ≡ width
length-digits zero n = refl
length-digits (suc width) n = omega (arith, length-digits width (n / 10), length-append (digits width (n / 10)) ((48 + n % 10) ∷ []))

last_same : (xs ys : List ℕ) (x y : ℕ) → xs ++ x ∷ [] ≡ ys ++ y ∷ [] → (xs ≡ ys) × (x ≡ y)
last_same [] [] x y e = (refl, cc)
last_same [] (b ∷ ys) x y e = absurd (omega (arith, ap length e, length-append ys (y ∷ [])))
last_same (a ∷ xs) [] x y e = absurd (omega (arith, ap length e, length-append xs (x ∷ [])))
last_same (a ∷ xs) (b ∷ ys) x y e =
    let heads : a ≡ b = cc in
    let tails : xs ++ x ∷ [] ≡ ys ++ y ∷ [] = cc in
    let rest = last_same xs ys x y tails in
    (let both : xs ≡ ys = rest.0 in cc, rest.1)

-- numbers that fit the width and have the same digits are equal
pub digits_injective : (width a b : ℕ) → a < 10 ^ width → b < 10 ^ width → digits width a ≡ digits width b → a ≡ b
digits_injective zero a b low high e = omega arith
digits_injective (suc width) a b low high e =
    let same = last_same (digits width (a / 10)) (digits width (b / 10)) (48 + a % 10) (48 + b % 10) e in
    let more = pow-suc 10 width in
    let front : a / 10 ≡ b / 10 = digits_injective width (a / 10) (b / 10) (omega arith) (omega arith) same.0 in
    omega (arith, same.1)

-- one digit more
digits_more : (width n digit : ℕ) → digit < 10 → digits (suc width) (n * 10 + digit) ≡ digits width n ++ (48 + digit) ∷ []
digits_more width n digit h =
    let front : (n * 10 + digit) / 10 ≡ n = omega arith in
    let last : (n * 10 + digit) % 10 ≡ digit = omega arith in
    rw (front, last)

ten_up : (i j : ℕ) → 10 ^ i ≤ 10 ^ (j + i)
ten_up i zero = let same : 0 + i ≡ i = omega arith in rw same (omega arith)
ten_up i (suc j) =
    let next : suc j + i ≡ suc (j + i) = omega arith in
    rw next (omega (arith, ten_up i j, pow-suc 10 (j + i)))

-- a power of ten below the ninth is at most a hundred million
pub ten_below_nine : (i : ℕ) → i < 9 → 10 ^ i ≤ 100000000
ten_below_nine i h = let up = ten_up i (8 - i) in let same : 8 - i + i ≡ 8 = omega arith in rw same at up

last_digit : (digit : ℕ) → digit < 10 → is_ascii_digit (48 + digit) ≡ true
last_digit digit h = grind arith

-- each of them is a decimal digit
digit_at : (width n i : ℕ) → i < width → is_ascii_digit (get_or (digits width n) i 0) ≡ true
digit_at zero n i h = absurd (omega arith)
digit_at (suc width) n i h =
    let front = digits width (n / 10) in
    let long : length front ≡ width = length-digits width (n / 10) in
    elim (cases_order i width) [
      | inr (inl lt) ↦ let within : i < length front = omega arith in
          rw (get_or-append front ((48 + n % 10) ∷ []) 0 i within) (digit_at width (n / 10) i lt)
      | inl same ↦
          let spot : get_or (front ++ (48 + n % 10) ∷ []) i 0 ≡ 48 + n % 10 =
          subst (λ (k : ℕ). get_or (front ++ (48 + n % 10) ∷ []) k 0 ≡ 48 + n % 10) (long ∙ sym same) (get_or-append_seam front (48 + n % 10) [] 0) in
          rw spot (last_digit (n % 10) (omega arith))
      | inr (inr gt) ↦ absurd (omega arith)
    ]

-- what a digit written in front of the digits below it keeps
pub digits_written : (text : List ℕ) (at number : ℕ) → 0 < at → at ≤ length text → digits at number ++ drop at text ≡ digits (at - 1) (number / 10) ++ drop (at - 1) (set text (at - 1) (48 + number % 10))
digits_written text zero number low high = absurd (omega arith)
digits_written text (suc at) number low high =
    let back : suc at - 1 ≡ at = omega arith in
    let next : at + 1 ≡ suc at = omega arith in
    rw (back, drop-set text at (48 + number % 10) (omega arith), next) (append_snoc (digits at (number / 10)) (48 + number % 10) (drop (suc at) text))

-- each character of a number's text is a digit
pub all_digits : (text : List ℕ) (n i : ℕ) → i < length text → text ≡ digits (length text) n → is_ascii_digit (get_or text i 0) ≡ true
all_digits text n i h e =
    subst (λ (t : List ℕ). is_ascii_digit (get_or t i 0) ≡ true) (sym e) (digit_at (length text) n i h)

-- a decimal digit is one of ten bytes
pub digit_bounds : (byte : ℕ) → is_ascii_digit byte ≡ true → (48 ≤ byte) × (byte < 58)
digit_bounds byte e = (grind arith, grind arith)

-- one digit more is read
pub digits_read : (text : List ℕ) (i value digit : ℕ) → i < length text → digit < 10 → get_or text i 0 ≡ 48 + digit → take i text ≡ digits i value → take (i + 1) text ≡ digits (i + 1) (value * 10 + digit)
digits_read text i value digit lt small e read =
    let next : i + 1 ≡ suc i = omega arith in
    take_more text i 0 lt ∙ rw (e, read, next) (sym (digits_more i value digit small))

-- with one digit more, a number still fits its count of digits
pub fits_more : (i value digit : ℕ) → digit < 10 → value < 10 ^ i → value * 10 + digit < 10 ^ (i + 1)
fits_more i value digit small fits =
    let next : i + 1 ≡ suc i = omega arith in
    let more = pow-suc 10 i in
    rw next (omega arith)
