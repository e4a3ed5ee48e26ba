-- Numbers of which each is below all that follow it.
use Rattle.std.specs.Prelude.{◌≡◌, ◌⊎◌, ◌==◌, ◌||◌, ℕ, ◌<◌, nat_lt, Bool, true, false, List, [], ◌∷◌, ◌++◌, All}
use Rattle.std.specs.List.{list_all, list_any}
use Rattle.std.proofs.Common.{⊎_elim, inl, inr, refl, sym, ap, subst, ◌∙◌, arith}
use Rattle.std.proofs.lemmas.Bool.{and_from, and_parts, eq-eqb, eqb-true, ltb-true, or_left, or_right}
use Rattle.std.proofs.lemmas.List.Elements.{All-cons, All-nil}
use Rattle.promises.specs.OrderLaws.Kept.{is_rising}

-- it is one of these
abbrev pub has : ℕ → List ℕ → Bool
has k xs = list_any (λ x. x == k) xs

-- ---- tests of all

-- what holds of all numbers holds of one among them
pub all_has : (p : ℕ → Bool) (xs : List ℕ) (k : ℕ) → list_all p xs ≡ true → has k xs ≡ true → p k ≡ true
all_has p [] k every there = absurd (cc)
all_has p (x ∷ xs) k every there = by (x == k) refl there (λ every there. all_has p xs k every there)
  where
    parts : (p x ≡ true) × (list_all p xs ≡ true)
    parts = and_parts (p x) (list_all p xs) every

    by : (b : Bool) → (x == k) ≡ b → (b || has k xs) ≡ true → (list_all p xs ≡ true → has k xs ≡ true → p k ≡ true) → p k ≡ true
    by true is there more = subst (λ n. p n ≡ true) (eqb-true x k is) parts.0
    by false is there more = more parts.1 there

-- a test that each number among them passes is passed by all
pub all_from : (p : ℕ → Bool) (xs : List ℕ) → ((k : ℕ) → has k xs ≡ true → p k ≡ true) → list_all p xs ≡ true
all_from p [] each = refl
all_from p (x ∷ xs) each =
    and_from (p x) (list_all p xs) (each x (or_left (x == x) (has x xs) (eq-eqb x x refl)))
    (all_from p xs (λ k there. each k (or_right (x == k) (has k xs) there)))

-- a fact that holds of each number among them holds of all
pub All_from : (P : ℕ → Type 0) (xs : List ℕ) → ((k : ℕ) → has k xs ≡ true → P k) → All P xs
All_from P [] each = All-nil P
All_from P (x ∷ xs) each =
    All-cons P x xs (each x (or_left (x == x) (has x xs) (eq-eqb x x refl))) (All_from P xs (λ k there. each k (or_right (x == k) (has k xs) there)))

-- ---- fewer and more

all_front : (p : ℕ → Bool) (xs ys : List ℕ) → list_all p (xs ++ ys) ≡ true → list_all p xs ≡ true
all_front p [] ys h = refl
all_front p (x ∷ xs) ys h = let parts = and_parts (p x) (list_all p (xs ++ ys)) h in and_from (p x) (list_all p xs) parts.0 (all_front p xs ys parts.1)

-- the front of rising numbers rises
pub rising_front : (xs ys : List ℕ) → is_rising (xs ++ ys) ≡ true → is_rising xs ≡ true
rising_front [] ys h = refl
rising_front (x ∷ xs) ys h =
    let parts = and_parts (list_all (nat_lt x) (xs ++ ys)) (is_rising (xs ++ ys)) h in
    and_from (list_all (nat_lt x) xs) (is_rising xs) (all_front (nat_lt x) xs ys parts.0) (rising_front xs ys parts.1)

all_without : (p : ℕ → Bool) (xs : List ℕ) (y : ℕ) (ys : List ℕ) → list_all p (xs ++ y ∷ ys) ≡ true → list_all p (xs ++ ys) ≡ true
all_without p [] y ys h = (and_parts (p y) (list_all p ys) h).1
all_without p (x ∷ xs) y ys h =
    let parts = and_parts (p x) (list_all p (xs ++ y ∷ ys)) h in and_from (p x) (list_all p (xs ++ ys)) parts.0 (all_without p xs y ys parts.1)

-- rising numbers without one of them still rise
pub rising_without : (xs : List ℕ) (y : ℕ) (ys : List ℕ) → is_rising (xs ++ y ∷ ys) ≡ true → is_rising (xs ++ ys) ≡ true
rising_without [] y ys h = (and_parts (list_all (nat_lt y) ys) (is_rising ys) h).1
rising_without (x ∷ xs) y ys h =
    let parts = and_parts (list_all (nat_lt x) (xs ++ y ∷ ys)) (is_rising (xs ++ y ∷ ys)) h in
    and_from (list_all (nat_lt x) (xs ++ ys)) (is_rising (xs ++ ys)) (all_without (nat_lt x) xs y ys parts.0) (rising_without xs y ys parts.1)

all_push : (p : ℕ → Bool) (xs : List ℕ) (z : ℕ) → list_all p xs ≡ true → p z ≡ true → list_all p (xs ++ z ∷ []) ≡ true
all_push p [] z h last = and_from (p z) true last refl
all_push p (x ∷ xs) z h last = let parts = and_parts (p x) (list_all p xs) h in and_from (p x) (list_all p (xs ++ z ∷ [])) parts.0 (all_push p xs z parts.1 last)

-- a number above all rising ones may come behind them
pub rising_push : (xs : List ℕ) (z : ℕ) → is_rising xs ≡ true → list_all (λ x. nat_lt x z) xs ≡ true → is_rising (xs ++ z ∷ []) ≡ true
rising_push [] z h below = refl
rising_push (x ∷ xs) z h below =
    let parts = and_parts (list_all (nat_lt x) xs) (is_rising xs) h in
    let under = and_parts (nat_lt x z) (list_all (λ x. nat_lt x z) xs) below in
    and_from (list_all (nat_lt x) (xs ++ z ∷ [])) (is_rising (xs ++ z ∷ [])) (all_push (nat_lt x) xs z parts.0 under.0) (rising_push xs z parts.1 under.1)

-- ---- two that have the same numbers are one

below_head : (x k : ℕ) (xs : List ℕ) → is_rising (x ∷ xs) ≡ true → has k xs ≡ true → x < k
below_head x k xs h there = ltb-true x k (all_has (nat_lt x) xs k (and_parts (list_all (nat_lt x) xs) (is_rising xs) h).0 there)

in_either : (x k : ℕ) (xs : List ℕ) → has k (x ∷ xs) ≡ true → (x ≡ k) ⊎ (has k xs ≡ true)
in_either x k xs h = by (x == k) refl h
  where
    by : (b : Bool) → (x == k) ≡ b → (b || has k xs) ≡ true → (x ≡ k) ⊎ (has k xs ≡ true)
    by true is h = inl (eqb-true x k is)
    by false is h = inr h

heads : (x y : ℕ) (xs ys : List ℕ) → is_rising (x ∷ xs) ≡ true → is_rising (y ∷ ys) ≡ true → ((k : ℕ) → has k (x ∷ xs) ≡ has k (y ∷ ys)) → x ≡ y
heads x y xs ys rx ry same = ⊎_elim (λ e. sym e) (λ there. later there) (in_either y x ys (sym (same x) ∙ or_left (x == x) (has x xs) (eq-eqb x x refl)))
  where
    later : has x ys ≡ true → x ≡ y
    later there =
        ⊎_elim (λ e. e) (λ back. absurd (omega (arith, below_head y x ys ry there, below_head x y xs rx back)))
        (in_either x y xs (same y ∙ or_left (y == y) (has y ys) (eq-eqb y y refl)))

tails : (x : ℕ) (xs ys : List ℕ) → is_rising (x ∷ xs) ≡ true → is_rising (x ∷ ys) ≡ true → ((k : ℕ) → has k (x ∷ xs) ≡ has k (x ∷ ys)) → (k : ℕ) → has k xs ≡ has k ys
tails x xs ys rx ry same k = by (x == k) refl (has k xs) (has k ys) refl refl (same k)
  where
    by : (b : Bool) → (x == k) ≡ b → (c d : Bool) → has k xs ≡ c → has k ys ≡ d → (b || has k xs) ≡ (b || has k ys) → has k xs ≡ has k ys
    by false is c d hc hd e = e
    by true is true d hc hd e = absurd (omega (arith, below_head x k xs rx hc, eqb-true x k is))
    by true is false true hc hd e = absurd (omega (arith, below_head x k ys ry hd, eqb-true x k is))
    by true is false false hc hd e = hc ∙ sym hd

-- two lists of rising numbers with the same members are the same
pub rising_same : (xs ys : List ℕ) → is_rising xs ≡ true → is_rising ys ≡ true → ((k : ℕ) → has k xs ≡ has k ys) → xs ≡ ys
rising_same [] [] rx ry same = refl
rising_same [] (y ∷ ys) rx ry same = absurd (let no = same y ∙ or_left (y == y) (has y ys) (eq-eqb y y refl) in cc)
rising_same (x ∷ xs) [] rx ry same = absurd (let no = sym (same x) ∙ or_left (x == x) (has x xs) (eq-eqb x x refl) in cc)
rising_same (x ∷ xs) (y ∷ ys) rx ry same =
    let e = heads x y xs ys rx ry same in
    let ry' = subst (λ n. is_rising (n ∷ ys) ≡ true) (sym e) ry in
    let same' = subst (λ n. (k : ℕ) → has k (x ∷ xs) ≡ has k (n ∷ ys)) (sym e) same in
    let rest = rising_same xs ys (and_parts (list_all (nat_lt x) xs) (is_rising xs) rx).1 (and_parts (list_all (nat_lt x) ys) (is_rising ys) ry').1 (tails x xs ys rx ry' same') in
    ap (λ n. n ∷ xs) e ∙ ap (λ l. y ∷ l) rest
