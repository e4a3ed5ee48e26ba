-- The numbers of a trie, and those in a directory, by their names.
use Rattle.std.specs.Prelude.{◌≡◌, ◌⊎◌, ⊤, ℕ, List, [], ◌∷◌, ◌++◌, Some, None, Option}
use Rattle.std.specs.Cmp.Lexicographic.{slice_cmp}
use Rattle.std.specs.Ordering.{nat_cmp}
use Rattle.std.specs.declared.cmp.Ordering.TheVariants.{Less}
use Rattle.name_tries.specs.Bits.{Name}
use Rattle.name_tries.specs.Keys.{Keys, name_in}
use Rattle.name_tries.specs.Tries.{Trie, leaf, inner}

-- the list has it
abbrev pub IsIn : {X : Type 0} → X → List X → Type 0
IsIn x [] = ⊥
IsIn x (y ∷ ys) = (x ≡ y) ⊎ IsIn x ys

-- those with a 0 at a bit come before those with a 1
abbrev pub numbers_in : Trie → List ℕ
numbers_in (leaf n) = n ∷ []
numbers_in (inner b w f l r) = numbers_in l ++ numbers_in r

abbrev pub numbers_of : Option Trie → List ℕ
numbers_of None = []
numbers_of (Some t) = numbers_in t

-- the name of each number comes before those of all later ones, by their bytes
abbrev pub Ascend : (ℕ → Name) → List ℕ → Type 0
Ascend name [] = ⊤
Ascend name (n ∷ ns) = ((m : ℕ) → IsIn m ns → slice_cmp nat_cmp (name n) (name m) ≡ Less) × Ascend name ns

-- all numbers with a name in the directory, by their names
pub record IsListed (keys : Keys) (dir : ℕ) (numbers : List ℕ) : Type 0 where
  pub each : (n : ℕ) → IsIn n numbers → (name : Name) × (keys n ≡ Some (dir, name))
  pub every : (n : ℕ) (name : Name) → keys n ≡ Some (dir, name) → IsIn n numbers
  pub ascend : Ascend (name_in keys) numbers
