-- Sums over lists, and how often a number stands in a list.
use Rattle.std.proofs.Common.{◌≡◌, ◌≢◌, ℕ, zero, suc, ◌+◌, ◌<◌, ◌≤◌, List, [], ◌∷◌, ◌++◌, length, set, sym, refl, ap, subst, arith, length-append, ◌==◌, if◌then◌else◌}
use Rattle.std.specs.List.{All, Contains}
use Rattle.std.proofs.lemmas.List.Elements.{All-contains, All-cons, All-nil, All-weaker, All-contains_itself}
use mathlib.Core.Option.{some, some-injective, some-ne-none}
use mathlib.Core.Logic.{dite}
use lib.ListN.{get_elem?}
use native.Mathlib.Decide.{ℕ_discrete}
use Rattle.std.proofs.lemmas.Bool.Decides.{nat_tests}
use Rattle.turn_lock.specs.Sums.{total, times}
use Rattle.turn_lock.specs.Histories.{numbers_to}

module _ {A : Type 0} (f : A → ℕ) where
  -- the sum over two lists is that of the first and that of the second
  pub total_append : (xs ys : List A) → total f (xs ++ ys) ≡ total f xs + total f ys
  total_append [] ys = omega arith
  total_append (x ∷ xs) ys = omega (arith, total_append xs ys)

  -- a list with one element changed sums up to as much more or less
  pub total_set : (xs : List A) (i : ℕ) (v w : A) → get_elem? xs i ≡ some v → total f (set xs i w) + f v ≡ total f xs + f w
  total_set [] i v w e = absurd (some-ne-none v (sym e))
  total_set (x ∷ xs) zero v w e = let h : f x ≡ f v = ap f (some-injective x v e) in omega (arith, h)
  total_set (x ∷ xs) (suc i) v w e = omega (arith, total_set xs i v w e)

  pub total_at : (xs : List A) (i : ℕ) (v : A) → get_elem? xs i ≡ some v → f v ≤ total f xs
  total_at [] i v e = absurd (some-ne-none v (sym e))
  total_at (x ∷ xs) zero v e = let h : f x ≡ f v = ap f (some-injective x v e) in omega (arith, h)
  total_at (x ∷ xs) (suc i) v e = omega (arith, total_at xs i v e)

  -- two elements of a list sum up to no more than all
  pub total_two : (xs : List A) (i j : ℕ) (v w : A) → i ≢ j → get_elem? xs i ≡ some v → get_elem? xs j ≡ some w → f v + f w ≤ total f xs
  total_two [] i j v w ne e d = absurd (some-ne-none v (sym e))
  total_two (x ∷ xs) zero zero v w ne e d = absurd (ne refl)
  total_two (x ∷ xs) zero (suc j) v w ne e d = let h : f x ≡ f v = ap f (some-injective x v e) in omega (arith, h, total_at xs j w d)
  total_two (x ∷ xs) (suc i) zero v w ne e d = let h : f x ≡ f w = ap f (some-injective x w d) in omega (arith, h, total_at xs i v e)
  total_two (x ∷ xs) (suc i) (suc j) v w ne e d = omega (arith, total_two xs i j v w (λ h. ne (ap suc h)) e d)

  -- elements that count nothing sum up to nothing
  pub total_zero : (xs : List A) → ((i : ℕ) (v : A) → get_elem? xs i ≡ some v → f v ≡ 0) → total f xs ≡ 0
  total_zero [] h = refl
  total_zero (x ∷ xs) h = omega (arith, h 0 x refl, total_zero xs (λ i v e. h (suc i) v e))

  -- where all but one give nothing
  pub total_one : (xs : List A) (i : ℕ) (v : A) → get_elem? xs i ≡ some v → ((j : ℕ) (w : A) → j ≢ i → get_elem? xs j ≡ some w → f w ≡ 0) → total f xs ≡ f v
  total_one [] i v e h = absurd (some-ne-none v (sym e))
  total_one (x ∷ xs) zero v e h = let same : f x ≡ f v = ap f (some-injective x v e) in omega (arith, same, total_zero xs (λ j w there. h (suc j) w (λ z. omega (arith, z)) there))
  total_one (x ∷ xs) (suc i) v e h = omega (arith, h 0 x (λ z. omega (arith, z)) refl, total_one xs i v e (λ j w ne there. h (suc j) w (λ z. ne (omega (arith, z))) there))

  -- elements that count no more sum up to no more
  pub total_le : (g : A → ℕ) (xs : List A) → ((i : ℕ) (v : A) → get_elem? xs i ≡ some v → f v ≤ g v) → total f xs ≤ total g xs
  total_le g [] h = omega arith
  total_le g (x ∷ xs) h = omega (arith, h 0 x refl, total_le g xs (λ i v e. h (suc i) v e))

-- a number stands in two lists as often as in both
pub times_append : (n : ℕ) (xs ys : List ℕ) → times n (xs ++ ys) ≡ times n xs + times n ys
times_append n xs ys = total_append (λ x. if x == n then 1 else 0) xs ys

-- the first number of a list stands in it
pub times_head : (n : ℕ) (xs : List ℕ) → 0 < times n (n ∷ xs)
times_head n xs = grind (arith, nat_tests)

all_stand : (xs : List ℕ) → All (λ y. 0 < times y xs) xs
all_stand [] = All-nil (λ y. 0 < times y [])
all_stand (x ∷ xs) = All-cons (λ y. 0 < times y (x ∷ xs)) x xs (times_head x xs) (All-weaker (λ y. 0 < times y xs) (λ y. 0 < times y (x ∷ xs)) (λ y h. omega (arith, h)) xs (all_stand xs))

-- a number that is in a list stands in it once at least
pub stands : (xs : List ℕ) (n : ℕ) → Contains xs n → 0 < times n xs
stands xs n at = All-contains (λ y. 0 < times y xs) xs n (all_stand xs) at

contains_head : (x : ℕ) (xs : List ℕ) → Contains (x ∷ xs) x
contains_head x xs = All-contains_itself (x ∷ xs) 0 x (omega arith)

contains_tail : (x : ℕ) (xs : List ℕ) (n : ℕ) → Contains xs n → Contains (x ∷ xs) n
contains_tail x xs n at = (suc at.0, omega (arith, at.1), at.2)

-- a number that stands in a list once at least is in it
pub stands_in : (xs : List ℕ) (n : ℕ) → 0 < times n xs → Contains xs n
stands_in [] n h = absurd (omega (arith, h))
stands_in (x ∷ xs) n h = dite (ℕ_discrete x n)
    (λ e. subst (Contains (x ∷ xs)) e (contains_head x xs))
    (λ ne. let z : times n (x ∷ []) ≡ 0 = grind (arith, nat_tests, ne) in contains_tail x xs n (stands_in xs n (omega (arith, h, z))))

-- a number that isn't in a list stands in it not at all
pub stands_not : (xs : List ℕ) (n : ℕ) → ¬ Contains xs n → times n xs ≡ 0
stands_not xs n h = dite (ℕ_discrete (times n xs) 0) (λ e. e) (λ ne. absurd (h (stands_in xs n (omega (arith, ne)))))

-- a number that stands in a list not at all isn't in it
pub not_in : (xs : List ℕ) (n : ℕ) → times n xs ≡ 0 → ¬ Contains xs n
not_in xs n z at = let h = stands xs n at in omega (arith, h, z)

-- in a list without elements no number stands
pub no_length : (n : ℕ) (xs : List ℕ) → length xs ≡ 0 → times n xs ≡ 0
no_length n [] e = refl
no_length n (x ∷ xs) e = absurd (omega (arith, e))

-- a lock of a size has so many numbers
pub numbers_length : (n : ℕ) → length (numbers_to n) ≡ n
numbers_length zero = refl
numbers_length (suc n) = omega (arith, numbers_length n, length-append (numbers_to n) (suc n ∷ []))

one_more : (j n : ℕ) → times j (numbers_to (suc n)) ≡ times j (numbers_to n) + times j (suc n ∷ [])
one_more j n = times_append j (numbers_to n) (suc n ∷ [])

is_last : (j n : ℕ) → j ≡ suc n → times j (suc n ∷ []) ≡ 1
is_last j n e = grind (arith, nat_tests, e)

is_not_last : (j n : ℕ) → suc n ≢ j → times j (suc n ∷ []) ≡ 0
is_not_last j n ne = grind (arith, nat_tests, ne)

number_above : (j n : ℕ) → n < j → times j (numbers_to n) ≡ 0
number_above j zero lt = refl
number_above j (suc n) lt = omega (arith, one_more j n, number_above j n (omega (arith, lt)), is_not_last j n (λ e. omega (arith, e, lt)))

number_zero : (n : ℕ) → times 0 (numbers_to n) ≡ 0
number_zero zero = refl
number_zero (suc n) = omega (arith, one_more 0 n, number_zero n, is_not_last 0 n (λ e. omega (arith, e)))

-- each number of a lock stands there once
pub number_once : (j n : ℕ) → 1 ≤ j → j ≤ n → times j (numbers_to n) ≡ 1
number_once j zero from to = absurd (omega (arith, from, to))
number_once j (suc n) from to = dite (ℕ_discrete (suc n) j)
    (λ e. omega (arith, one_more j n, number_above j n (omega (arith, e)), is_last j n (sym e)))
    (λ ne. omega (arith, one_more j n, number_once j n from (omega (arith, to, ne)), is_not_last j n ne))

not_zero : (j n : ℕ) → 0 < times j (numbers_to n) → 1 ≤ j
not_zero j n h = dite (ℕ_discrete j 0) (λ e. let z : times j (numbers_to n) ≡ 0 = subst (λ (k : ℕ). times k (numbers_to n) ≡ 0) (sym e) (number_zero n) in absurd (omega (arith, h, z))) (λ ne. omega (arith, ne))

not_above : (j n : ℕ) → 0 < times j (numbers_to n) → j ≤ n
not_above j zero h = absurd (omega (arith, h))
not_above j (suc n) h = dite (ℕ_discrete (suc n) j) (λ e. omega (arith, e)) (λ ne. let r = not_above j n (omega (arith, h, one_more j n, is_not_last j n ne)) in omega (arith, r))

-- a number that stands among 1 to n
pub number_within : (j n : ℕ) → 0 < times j (numbers_to n) → (1 ≤ j) × (j ≤ n)
number_within j n h = (not_zero j n h, not_above j n h)

-- no number stands twice among those of a lock
pub number_at_most_once : (j n : ℕ) → times j (numbers_to n) ≤ 1
number_at_most_once j n = dite (ℕ_discrete (times j (numbers_to n)) 0) (λ e. omega (arith, e)) (λ ne. let w = number_within j n (omega (arith, ne)) in let o = number_once j n w.0 w.1 in omega (arith, o))
