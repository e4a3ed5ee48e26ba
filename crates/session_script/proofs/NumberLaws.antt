-- Numbers and sessions, as they are read and as they are spelled.
use Rattle.std.proofs.Common.{◌≡◌, ◌≢◌, ℕ, suc, ◌+◌, ◌-◌, ◌*◌, ◌^◌, ◌<◌, ◌≤◌, Bool, true, false, cond, List, [], ◌∷◌, length, get_or, fold, sym, ap, ◌∙◌, refl, subst, arith, Some, None}
use Rattle.std.specs.Prelude.{Option, ◌&&◌, not, nat_le, nat_lt, nat_eq, option_and_then, codes}
use Rattle.std.specs.List.{AllByRecursion, list_all, starts_with}
use Rattle.std.specs.Char.{is_digit}
use Rattle.std.proofs.lemmas.Bool.{and_parts, leb-true, ltb-true}
use Rattle.std.proofs.lemmas.Bool.Decides.{nat_tests}
use Rattle.std.proofs.Math.Nat.{add-mul, mul_assoc, mul_comm, pow-suc}
use Rattle.session_script.specs.Bounds.{most_sessions}
use Rattle.session_script.specs.Words.{decimal_value, number_of, session_of}
use Rattle.session_script.specs.ScriptText.{IsDecimalDigit, place_value, SpellsNumber, SpellsSession}

-- where a condition gives something, it holds and that is what it gives
pub some_if : {A : Type 0} (b : Bool) (x y : A) → cond b (Some x) None ≡ Some y → (b ≡ true) × (x ≡ y)
some_if true x y e = (refl, cc)
some_if false x y e = cc

all_yes : {X : Type 0} (p : X → Bool) (P : X → Type 0) → ((x : X) → p x ≡ true → P x) → (xs : List X) → list_all p xs ≡ true → AllByRecursion P xs
all_yes p P say [] h = tt
all_yes p P say (x ∷ xs) h = let b = and_parts (p x) (list_all p xs) h in (say x b.0, all_yes p P say xs b.1)

all_no : {X : Type 0} (p : X → Bool) (P : X → Type 0) → ((x : X) → P x → p x ≡ true) → (xs : List X) → AllByRecursion P xs → list_all p xs ≡ true
all_no p P say [] h = refl
all_no p P say (x ∷ xs) h = ap (λ b. b && list_all p xs) (say x h.0) ∙ all_no p P say xs h.1

digit_yes : (d : ℕ) → is_digit d 10 ≡ true → IsDecimalDigit d
digit_yes d h = (grind (arith, nat_tests), grind (arith, nat_tests))

digit_no : (d : ℕ) → IsDecimalDigit d → is_digit d 10 ≡ true
digit_no d h = grind (arith, nat_tests)

shifted : (a x k m : ℕ) → m ≡ k * 10 → (a * 10 + x) * k ≡ a * m + x * k
shifted a x k m e = add-mul (a * 10) x k ∙ ap (λ n. n + x * k) (mul_assoc a 10 k ∙ ap (λ n. a * n) (mul_comm 10 k ∙ sym e))

folded : (digits : List ℕ) (a : ℕ) → fold (λ n d. n * 10 + (d - 48)) a digits ≡ a * 10 ^ length digits + place_value digits
folded [] a = omega arith
folded (d ∷ digits) a =
    folded digits (a * 10 + (d - 48)) ∙ ap (λ n. n + place_value digits) (shifted a (d - 48) (10 ^ length digits) (10 ^ suc (length digits)) (pow-suc 10 (length digits))) ∙ omega arith

-- a word that is read as a number spells it
pub number_found : (word : List ℕ) (n : ℕ) → number_of word ≡ Some n → SpellsNumber word n
number_found word n e =
    let parts = some_if (nat_le 1 (length word) && nat_le (length word) 20 && list_all (λ d. is_digit d 10) word && nat_lt (decimal_value word) (2 ^ 64)) (decimal_value word) n e in
    let first = and_parts (nat_le 1 (length word) && nat_le (length word) 20 && list_all (λ d. is_digit d 10) word) (nat_lt (decimal_value word) (2 ^ 64)) parts.0 in
    let second = and_parts (nat_le 1 (length word) && nat_le (length word) 20) (list_all (λ d. is_digit d 10) word) first.0 in
    let third = and_parts (nat_le 1 (length word)) (nat_le (length word) 20) second.0 in
    let below : decimal_value word < 2 ^ 64 = ltb-true _ _ first.1 in record {
      some = leb-true _ _ third.0;
      few = leb-true _ _ third.1;
      digits = all_yes (λ d. is_digit d 10) IsDecimalDigit digit_yes word second.1;
      value = sym (folded word 0 ∙ omega arith) ∙ parts.1;
      small = subst (λ m. m < 2 ^ 64) parts.1 below;
    }

-- a word that spells a number is read as that number
pub number_only : (word : List ℕ) (n : ℕ) → SpellsNumber word n → number_of word ≡ Some n
number_only word n h =
    let value : decimal_value word ≡ n = folded word 0 ∙ (let e : 0 * 10 ^ length word + place_value word ≡ place_value word = omega arith in e) ∙ h.value in
    let some : nat_le 1 (length word) ≡ true = grind (arith, nat_tests, h.some) in
    let few : nat_le (length word) 20 ≡ true = grind (arith, nat_tests, h.few) in
    let small : nat_lt n (2 ^ 64) ≡ true = grind (arith, nat_tests, h.small) in
    ap (λ b. cond (b && nat_le (length word) 20 && list_all (λ d. is_digit d 10) word && nat_lt (decimal_value word) (2 ^ 64)) (Some (decimal_value word)) None) some
    ∙ ap (λ b. cond (b && list_all (λ d. is_digit d 10) word && nat_lt (decimal_value word) (2 ^ 64)) (Some (decimal_value word)) None) few
    ∙ ap (λ b. cond (b && nat_lt (decimal_value word) (2 ^ 64)) (Some (decimal_value word)) None) (all_no (λ d. is_digit d 10) IsDecimalDigit digit_no word h.digits)
    ∙ ap (λ m. cond (nat_lt m (2 ^ 64)) (Some m) None) value
    ∙ ap (λ b. cond b (Some n) None) small

zero_front : (word : List ℕ) → not (starts_with nat_eq word (codes "0")) ≡ true → get_or word 0 0 ≢ 48
zero_front [] h e = absurd (omega arith)
zero_front (d ∷ word) h e = grind (arith, nat_tests)

no_zero_front : (word : List ℕ) → get_or word 0 0 ≢ 48 → not (starts_with nat_eq word (codes "0")) ≡ true
no_zero_front [] h = refl
no_zero_front (d ∷ word) h = grind (arith, nat_tests)

abbrev in_range : List ℕ → ℕ → Bool
in_range word who = nat_le 1 who && nat_le who most_sessions && not (starts_with nat_eq word (codes "0"))

-- a word that is read as a session spells it
pub session_found : (word : List ℕ) (who : ℕ) → session_of word ≡ Some who → SpellsSession word who
session_found word who e = at (number_of word) refl e
  where
    at : (o : Option ℕ) → number_of word ≡ o → option_and_then (λ n. cond (in_range word n) (Some n) None) o ≡ Some who → SpellsSession word who
    at None is h = cc
    at (Some n) is h =
        let parts = some_if (in_range word n) n who h in
        let first = and_parts (nat_le 1 n && nat_le n most_sessions) (not (starts_with nat_eq word (codes "0")))
        parts.0 in
        let second = and_parts (nat_le 1 n) (nat_le n most_sessions) first.0 in
        let low : 1 ≤ n = leb-true _ _ second.0 in
        let high : n ≤ most_sessions = leb-true _ _ second.1 in record {
          number = subst (SpellsNumber word) parts.1 (number_found word n is);
          low = subst (λ m. 1 ≤ m) parts.1 low;
          high = subst (λ m. m ≤ most_sessions) parts.1 high;
          no_zero = zero_front word first.1;
        }

-- a word that spells a session is read as that session
pub session_only : (word : List ℕ) (who : ℕ) → SpellsSession word who → session_of word ≡ Some who
session_only word who h =
    let low : nat_le 1 who ≡ true = grind (arith, nat_tests, h.low) in
    let high : nat_le who most_sessions ≡ true = grind (arith, nat_tests, h.high) in
    ap (option_and_then (λ n. cond (in_range word n) (Some n) None)) (number_only word who h.number)
    ∙ ap (λ b. cond (b && nat_le who most_sessions && not (starts_with nat_eq word (codes "0"))) (Some who) None) low
    ∙ ap (λ b. cond (b && not (starts_with nat_eq word (codes "0"))) (Some who) None) high
    ∙ ap (λ b. cond b (Some who) None) (no_zero_front word h.no_zero)
