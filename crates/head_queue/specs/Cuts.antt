-- Lists of numbers that differ, and places in them.
use Rattle.std.specs.Prelude.{◌≡◌, ◌≢◌, ℕ, cond, nat_eq, List, [], ◌∷◌, ◌++◌}

-- the first one, or e where there is none
abbrev pub first_of : ℕ → List ℕ → ℕ
first_of e [] = e
first_of e (x ∷ xs) = x

-- the last one, or e where there is none
abbrev pub last_of : ℕ → List ℕ → ℕ
last_of e [] = e
last_of e (x ∷ xs) = last_of x xs

-- k is none of them
abbrev pub Misses : ℕ → List ℕ → Type 0
Misses k [] = Unit {0}
Misses k (x ∷ xs) = (k ≢ x) × Misses k xs

-- no two are equal
abbrev pub Differ : List ℕ → Type 0
Differ [] = Unit {0}
Differ (x ∷ xs) = Misses x xs × Differ xs

-- the place in the list directly after k, or at its begin where k is 0
pub record IsCut (xs : List ℕ) (k : ℕ) : Type 0 where
  pub front : List ℕ
  pub behind : List ℕ
  pub parts : xs ≡ front ++ behind
  pub last : k ≡ last_of 0 front

-- where k stands in the list
pub record IsMember (xs : List ℕ) (k : ℕ) : Type 0 where
  pub front : List ℕ
  pub behind : List ℕ
  pub parts : xs ≡ front ++ k ∷ behind

-- what stands behind the first k
abbrev pub rest_after : ℕ → List ℕ → List ℕ
rest_after k [] = []
rest_after k (x ∷ xs) = cond (nat_eq k x) xs (rest_after k xs)
