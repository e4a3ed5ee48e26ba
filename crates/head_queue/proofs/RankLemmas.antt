-- The order of ranks, and the order in which the head serves.
use Rattle.std.proofs.Common.{◌≡◌, ℕ, ◌+◌, ◌*◌, ◌^◌, ◌<◌, ◌≤◌, true, false, nat_lt, List, [], ◌∷◌, ap, arith, inl, inr, ◌⊎◌}
use Rattle.std.proofs.lemmas.Bool.Decides.{nat_tests}
use Rattle.head_queue.specs.EventLaws.Waiting.{as_number}
use Rattle.head_queue.specs.Keys.{is_upto, key_within}

-- ---- keys

-- the key with the lesser first number comes first
pub lesser : (x y : ℕ) (xs ys : List ℕ) → x < y → is_upto (x ∷ xs) (y ∷ ys) ≡ true
lesser x y xs ys lt = grind (arith, nat_tests)

-- of two keys with the same first number, the rest says which comes first
pub alike : (x y : ℕ) (xs ys : List ℕ) → x ≡ y → is_upto xs ys ≡ true → is_upto (x ∷ xs) (y ∷ ys) ≡ true
alike x y xs ys e h = grind (arith, nat_tests)

last : (a b : ℕ) → a ≤ b → is_upto (a ∷ []) (b ∷ []) ≡ true
last a b le = grind (arith, nat_tests)

-- a position behind the head's is served after one that isn't
pub ahead_first : (head p q a b : ℕ) → head ≤ p → q < head → is_upto (key_within head p a) (key_within head q b) ≡ true
ahead_first head p q a b le lt = lesser (as_number (nat_lt p head)) (as_number (nat_lt q head)) (p ∷ a ∷ []) (q ∷ b ∷ []) (less head p q le lt)
  where
    less : (head p q : ℕ) → head ≤ p → q < head → as_number (nat_lt p head) < as_number (nat_lt q head)
    less head p q le lt =
        let e : nat_lt p head ≡ false = grind (arith, nat_tests) in
        let f : nat_lt q head ≡ true = grind (arith, nat_tests) in
        let g : as_number (nat_lt p head) ≡ 0 = ap as_number e in
        let h : as_number (nat_lt q head) ≡ 1 = ap as_number f in
        omega arith

-- on one side of the head, the lower position and then the earlier request comes first
pub in_order : (head p q a b : ℕ) → nat_lt p head ≡ nat_lt q head → (p < q) ⊎ ((p ≡ q) × (a ≤ b)) → is_upto (key_within head p a) (key_within head q b) ≡ true
in_order head p q a b side (inl lt) = alike (as_number (nat_lt p head)) (as_number (nat_lt q head)) (p ∷ a ∷ []) (q ∷ b ∷ []) (ap as_number side) (lesser p q (a ∷ []) (b ∷ []) lt)
in_order head p q a b side (inr h) = alike (as_number (nat_lt p head)) (as_number (nat_lt q head)) (p ∷ a ∷ []) (q ∷ b ∷ []) (ap as_number side) (alike p q (a ∷ []) (b ∷ []) h.0 (last a b h.1))

-- ---- ranks

-- numbers of three digits in their order
pub digits : (x p a y q b : ℕ) → p < 2 ^ 64 → a < 2 ^ 64 → q < 2 ^ 64 → b < 2 ^ 64
    → (x * 2 ^ 64 + p) * 2 ^ 64 + a < (y * 2 ^ 64 + q) * 2 ^ 64 + b
    → (x < y) ⊎ ((x ≡ y) × ((p < q) ⊎ ((p ≡ q) × (a < b))))
digits x p a y q b hp ha hq hb lt = by_first (cases x y)
  where
    cases : (x y : ℕ) → (x < y) ⊎ ((x ≡ y) ⊎ (y < x))
    cases x y = grind arith

    second : x ≡ y → (p < q) ⊎ ((p ≡ q) ⊎ (q < p)) → (p < q) ⊎ ((p ≡ q) × (a < b))
    second e (inl l) = inl l
    second e (inr (inl same)) = inr (same, omega arith)
    second e (inr (inr more)) = absurd (omega arith)

    by_first : (x < y) ⊎ ((x ≡ y) ⊎ (y < x)) → (x < y) ⊎ ((x ≡ y) × ((p < q) ⊎ ((p ≡ q) × (a < b))))
    by_first (inl l) = inl l
    by_first (inr (inl e)) = inr (e, second e (cases p q))
    by_first (inr (inr m)) = absurd (omega arith)
