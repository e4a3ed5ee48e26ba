-- What can be decided: equations and orders of numbers and texts, and whether something stands at a place of a list.
use Rattle.std.proofs.Common.{◌≡◌, ◌⊎◌, ⊎_elim, ℕ, zero, suc, ◌≤◌, ◌<◌, Bool, true, false, List, length, Option, Some, None, inl, inr, refl, sym, subst, ◌∙◌, arith}
use Rattle.std.specs.List.{slice_get}
use Rattle.std.specs.Str.{bytes_eq}
use Rattle.std.proofs.lemmas.Bool.{cases_eq, cases_lt}
use Rattle.std.proofs.lemmas.Option.{slice_get_within}
use Rattle.std.proofs.lemmas.Slice.Eq.{bytes_eq-Decides}
use Rattle.index_model.specs.Places.{IsAt, IsFirst}

-- it holds, or it doesn't
abbrev pub Known : Type 0 → Type 0
Known P = P ⊎ (P → ⊥)

-- what says the same as something that can be decided can be decided
pub known_by : {P Q : Type 0} → (P → Q) → (Q → P) → Known P → Known Q
known_by there back (inl p) = inl (there p)
known_by there back (inr none) = inr (λ q. none (back q))

-- whether two things hold together can be decided where each can
pub known_both : {P Q : Type 0} → Known P → Known Q → Known (P × Q)
known_both (inl p) (inl q) = inl (p, q)
known_both (inl p) (inr none) = inr (λ b. none b.1)
known_both (inr none) q = inr (λ b. none b.0)

-- whether one of two things holds can be decided where each can
pub known_either : {P Q : Type 0} → Known P → Known Q → Known (P ⊎ Q)
known_either (inl p) q = inl (inl p)
known_either (inr none) (inl q) = inl (inr q)
known_either (inr none) (inr never) = inr (λ b. ⊎_elim none never b)

-- whether something does not hold can be decided where it can
pub known_not : {P : Type 0} → Known P → Known (P → ⊥)
known_not (inl p) = inr (λ none. none p)
known_not (inr none) = inl none

-- whether two numbers are equal can be decided
pub known_eq : (a b : ℕ) → Known (a ≡ b)
known_eq a b = cases_eq a b

-- whether a number is less than another can be decided
pub known_lt : (a b : ℕ) → Known (a < b)
known_lt a b = ⊎_elim (λ less. inl less) (λ more. inr (λ less. omega (arith, less, more))) (cases_lt a b)

-- whether a number is at most another can be decided
pub known_le : (a b : ℕ) → Known (a ≤ b)
known_le a b = ⊎_elim (λ less. inr (λ le. omega (arith, less, le))) (λ le. inl le) (cases_lt b a)

-- whether two texts are the same can be decided
pub known_text : (xs ys : List ℕ) → Known (xs ≡ ys)
known_text xs ys = by (bytes_eq xs ys) refl
  where
    by : (b : Bool) → bytes_eq xs ys ≡ b → Known (xs ≡ ys)
    by true is = inl ((bytes_eq-Decides xs ys).0 is)
    by false is = inr (λ e. let wrong : true ≡ false = sym ((bytes_eq-Decides xs ys).1 e) ∙ is in cc)

-- ---- the first place below a bound

abbrev pub FirstBelow : (ℕ → Type 0) → ℕ → Type 0
FirstBelow P n = (at : ℕ) × (at < n) × IsFirst P at

abbrev pub NoneBelow : (ℕ → Type 0) → ℕ → Type 0
NoneBelow P n = (k : ℕ) → k < n → P k → ⊥

-- below a number something holds at a first place, or at none
pub first_below : (P : ℕ → Type 0) → ((k : ℕ) → Known (P k)) → (n : ℕ) → FirstBelow P n ⊎ NoneBelow P n
first_below P known zero = inr (λ k less h. omega (arith, less))
first_below P known (suc n) = by (first_below P known n) (known n)
  where
    by : FirstBelow P n ⊎ NoneBelow P n → Known (P n) → FirstBelow P (suc n) ⊎ NoneBelow P (suc n)
    by (inl found) here = inl (found.0, omega (arith, found.1), found.2)
    by (inr none) (inl here) = inl (n, omega arith, record { here = here; none_before = none })
    by (inr none) (inr not_here) = inr (λ k less h. ⊎_elim
        (λ before. none k before h)
        (λ behind. let same : k ≡ n = omega (arith, less, behind) in not_here (subst P same h))
        (cases_lt k n))

-- whether something holds at a place below a number can be decided
pub some_below : (P : ℕ → Type 0) → ((k : ℕ) → Known (P k)) → (n : ℕ) → Known ((k : ℕ) × (k < n) × P k)
some_below P known n = ⊎_elim (λ found. inl (found.0, found.1, found.2.here)) (λ none. inr (λ some. none some.0 some.1 some.2)) (first_below P known n)

-- ---- at a place of a list

-- at a place of a list stands something of which this holds
abbrev pub AtPlace : {X : Type 0} → List X → ℕ → (X → Type 0) → Type 0
AtPlace {X} xs at P = (x : X) × IsAt xs at x × P x

-- whether something of a kind stands at a place of a list can be decided
pub known_at : {X : Type 0} (xs : List X) (at : ℕ) (P : X → Type 0) → ((x : X) → Known (P x)) → Known (AtPlace xs at P)
known_at {X} xs at P known = by (slice_get xs at) refl
  where
    by : (o : Option X) → slice_get xs at ≡ o → Known (AtPlace xs at P)
    by None is = inr (λ h. let wrong : None ≡ Some h.0 = sym is ∙ h.1 in cc)
    by (Some x) is = ⊎_elim (λ p. inl (x, is, p)) (λ none. inr (λ h. let same : h.0 ≡ x = (let both : Some h.0 ≡ Some x = sym h.1 ∙ is in cc) in none (subst P same h.2))) (known x)

-- some place of a list
pub known_in : {X : Type 0} (xs : List X) (P : X → Type 0) → ((x : X) → Known (P x)) → Known ((at : ℕ) × AtPlace xs at P)
known_in xs P known =
    known_by (λ h. (h.0, h.2)) (λ h. (h.0, slice_get_within xs h.0 h.1.0 h.1.1, h.1))
    (some_below (λ at. AtPlace xs at P) (λ at. known_at xs at P known) (length xs))
