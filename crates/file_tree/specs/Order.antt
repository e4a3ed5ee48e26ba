-- The order of the nodes in their directories, and the places that are empty.
use Rattle.std.specs.Prelude.{◌≡◌, ⊤, ℕ, ◌<◌, List, [], ◌∷◌, ◌++◌, map, Some, None}
use Rattle.std.specs.List.Sorted.{IsStrictlySortedBy}
use Rattle.plain_tree.specs.Links.{name_cmp}
use Rattle.plain_tree.specs.Paths.{Name, Path}
pub use Rattle.name_tries.specs.Listing.{IsIn}
use Rattle.file_tree.specs.Tree.{Nodes, number_at}
use Rattle.file_tree.specs.Seen.{Held}

-- nothing is kept at these numbers, which are below a bound, and none stands there twice
abbrev pub AreEmpty : Held → ℕ → List ℕ → Type 0
AreEmpty at bound [] = ⊤
AreEmpty at bound (n ∷ ns) = (n < bound) × (at n ≡ None) × (IsIn n ns → ⊥) × AreEmpty at bound ns

-- the numbers stand at paths that are the directory's with one name more, and those names ascend; all that stand there
-- are told
pub record IsRunAt (m : Nodes) (path : Path) (numbers : List ℕ) : Type 0 where
  pub names : List Name
  pub each : map (λ (name : Name). number_at m (path ++ name ∷ [])) names ≡ map (λ n. Some n) numbers
  pub every : (name : Name) (n : ℕ) → number_at m (path ++ name ∷ []) ≡ Some n → IsIn name names
  pub ascend : IsStrictlySortedBy name_cmp names

-- so it is of the directory with this number
abbrev pub IsRunOf : Nodes → ℕ → List ℕ → Type 0
IsRunOf m dir numbers = (path : Path) → number_at m path ≡ Some dir → IsRunAt m path numbers
