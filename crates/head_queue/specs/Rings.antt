-- Numbers that are linked in both directions, with 0 before the first and after the last.
use Rattle.std.specs.Prelude.{◌≡◌, ℕ, zero, suc, ◌≤◌, List, [], ◌∷◌, length}
use Rattle.std.specs.List.{AllByRecursion}
use Rattle.head_queue.specs.Cuts.{Differ}

-- the numbers of a chain in their order, how many numbers it may have, and for how many more it has room
pub record Ring : Type 0 where
  pub members : List ℕ
  pub size : ℕ
  pub spare : ℕ

-- what is met from a number on
abbrev pub met_from : (ℕ → ℕ) → ℕ → ℕ → List ℕ
met_from after zero at = []
met_from after (suc n) at = at ∷ met_from after n (after at)

-- each is linked with the one that follows, the first one with p and the last one with e
abbrev pub IsPath : (ℕ → ℕ) → (ℕ → ℕ) → ℕ → List ℕ → ℕ → Type 0
IsPath after before p [] e = (after p ≡ e) × (before e ≡ p)
IsPath after before p (x ∷ xs) e = (after p ≡ x) × (before x ≡ p) × IsPath after before x xs e

pub record IsRing (after before : ℕ → ℕ) (size : ℕ) (xs : List ℕ) (count : ℕ) : Type 0 where
  pub path : IsPath after before 0 xs 0
  pub differ : Differ (0 ∷ xs)
  pub within : AllByRecursion (λ k. k ≤ size) xs
  pub counted : length xs ≡ count
  pub room : count ≤ size
