-- Sums over lists.
use Rattle.std.specs.Prelude.{ℕ, ◌+◌, ◌==◌, if◌then◌else◌, List, [], ◌∷◌}

-- f of each, added up
abbrev pub total : {A : Type 0} → (A → ℕ) → List A → ℕ
total f [] = 0
total f (x ∷ xs) = f x + total f xs

-- how often n stands in the list
abbrev pub times : ℕ → List ℕ → ℕ
times n xs = total (λ x. if x == n then 1 else 0) xs
