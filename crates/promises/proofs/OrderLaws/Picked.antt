-- The places of the elements of a list that pass a test.
use Rattle.std.specs.Prelude.{◌≡◌, ◌==◌, ◌||◌, ℕ, zero, suc, ◌+◌, ◌<◌, nat_lt, Bool, true, false, cond, List, [], ◌∷◌, ◌++◌, filter_map, length, Option, Some, None, slice_get}
use Rattle.std.specs.List.{cons_option, enumerate_from, list_all}
use Rattle.std.proofs.Common.{refl, sym, ap, subst, ◌∙◌, arith}
use Rattle.std.proofs.lemmas.Bool.{and_from, eq-eqb, lt-ltb, ne_eqb}
use Rattle.std.proofs.lemmas.List.Elements.{filter_map-append}
use Rattle.promises.specs.OrderLaws.Kept.{is_rising}
use Rattle.promises.proofs.OrderLaws.Lists.{enumerate-push}
use Rattle.promises.proofs.OrderLaws.Rising.{has}

-- the first element has place n
abbrev pub picked : {X : Type 0} → (X → Bool) → ℕ → List X → List ℕ
picked test n xs = filter_map (λ e. cond (test e.1) (Some e.0) None) (enumerate_from n xs)

-- whether an element is there and passes
abbrev pub passes : {X : Type 0} → (X → Bool) → Option X → Bool
passes test None = false
passes test (Some x) = test x

cond_option : (b : Bool) (n m : ℕ) → n ≡ m → cons_option (cond b (Some n) None) [] ≡ cond b (m ∷ []) []
cond_option true n m e = ap (λ k. k ∷ []) e
cond_option false n m e = refl

-- one more element adds its place just if it passes the test
pub picked_push : {X : Type 0} (test : X → Bool) (xs : List X) (x : X) → picked test 0 (xs ++ x ∷ []) ≡ picked test 0 xs ++ cond (test x) (length xs ∷ []) []
picked_push test xs x =
    ap (filter_map (λ e. cond (test e.1) (Some e.0) None)) (enumerate-push 0 xs x)
    ∙ filter_map-append (λ e. cond (test e.1) (Some e.0) None) (enumerate_from 0 xs) ((0 + length xs, x) ∷ [])
    ∙ ap (λ l. picked test 0 xs ++ l) (cond_option (test x) (0 + length xs) (length xs) (omega arith))

-- ---- which places there are

has_cond : (b : Bool) (n k : ℕ) (rest : List ℕ) → (b ≡ true → (n == k) ≡ false) → has k (cons_option (cond b (Some n) None) rest) ≡ has k rest
has_cond true n k rest other = ap (λ c. c || has k rest) (other refl)
has_cond false n k rest other = refl

none_below : {X : Type 0} (test : X → Bool) (n k : ℕ) (xs : List X) → k < n → has k (picked test n xs) ≡ false
none_below test n k [] less = refl
none_below test n k (x ∷ xs) less =
    has_cond (test x) n k (picked test (n + 1) xs) (λ is. ne_eqb n k (λ e. omega (arith, e, less))) ∙ none_below test (n + 1) k xs (omega (arith, less))

has_head : (b : Bool) (n : ℕ) (rest : List ℕ) → has n rest ≡ false → has n (cons_option (cond b (Some n) None) rest) ≡ b
has_head true n rest none = ap (λ c. c || has n rest) (eq-eqb n n refl)
has_head false n rest none = none

has_from : {X : Type 0} (test : X → Bool) (n k : ℕ) (xs : List X) → has (n + k) (picked test n xs) ≡ passes test (slice_get xs k)
has_from test n k [] = refl
has_from test n zero (x ∷ xs) =
    let same : n ≡ n + 0 = omega arith in
    subst (λ m. has m (picked test n (x ∷ xs)) ≡ test x) same (has_head (test x) n (picked test (n + 1) xs) (none_below test (n + 1) n xs (omega arith)))
has_from test n (suc k) (x ∷ xs) =
    let same : n + 1 + k ≡ n + suc k = omega arith in
    has_cond (test x) n (n + suc k) (picked test (n + 1) xs) (λ is. ne_eqb n (n + suc k) (λ e. omega (arith, e))) ∙ ap (λ m. has m (picked test (n + 1) xs)) (sym same) ∙ has_from test (n + 1) k xs

-- a place is picked just if the element there passes the test
pub has_picked : {X : Type 0} (test : X → Bool) (xs : List X) (k : ℕ) → has k (picked test 0 xs) ≡ passes test (slice_get xs k)
has_picked test xs k = let same : 0 + k ≡ k = omega arith in ap (λ m. has m (picked test 0 xs)) (sym same) ∙ has_from test 0 k xs

-- ---- their order

below_all : {X : Type 0} (test : X → Bool) (n m : ℕ) (xs : List X) → n < m → list_all (nat_lt n) (picked test m xs) ≡ true
below_all test n m [] less = refl
below_all test n m (x ∷ xs) less = by (test x) (below_all test n (m + 1) xs (omega (arith, less)))
  where
    by : (b : Bool) → list_all (nat_lt n) (picked test (m + 1) xs) ≡ true → list_all (nat_lt n) (cons_option (cond b (Some m) None) (picked test (m + 1) xs)) ≡ true
    by true rest = and_from (nat_lt n m) (list_all (nat_lt n) (picked test (m + 1) xs)) (lt-ltb n m less) rest
    by false rest = rest

-- picked places come in rising order
pub picked_rise : {X : Type 0} (test : X → Bool) (n : ℕ) (xs : List X) → is_rising (picked test n xs) ≡ true
picked_rise test n [] = refl
picked_rise test n (x ∷ xs) = by (test x) (picked_rise test (n + 1) xs)
  where
    by : (b : Bool) → is_rising (picked test (n + 1) xs) ≡ true → is_rising (cons_option (cond b (Some n) None) (picked test (n + 1) xs)) ≡ true
    by true rest = and_from (list_all (nat_lt n) (picked test (n + 1) xs)) (is_rising (picked test (n + 1) xs)) (below_all test n (n + 1) xs (omega arith)) rest
    by false rest = rest
