-- What is kept of the numbers that stand in a chain by owner.
use Rattle.std.specs.Prelude.{◌≡◌, ◌≢◌, ℕ, ◌≤◌, cond, nat_eq, List, [], ◌∷◌, map, length, Option, Some, None, ◌⊎◌}
use Rattle.std.specs.List.{AllByRecursion}
use Rattle.head_queue.specs.declared.newest.Owned.{Owned}
use Rattle.head_queue.specs.Cuts.{Differ}
use Rattle.head_queue.specs.Newest.{lookup, Ascending, owned_at}

-- an owner has none of them
abbrev pub Lacks : ℕ → List Owned → Type 0
Lacks o xs = AllByRecursion (λ (x : Owned). o ≢ x.owner) xs

-- the first of them, where there is one, is of an owner
abbrev pub Begins : ℕ → List Owned → Type 0
Begins o [] = ⊥
Begins o (x ∷ xs) = o ≡ x.owner

-- the numbers of one owner follow each other
abbrev pub Grouped : List Owned → Type 0
Grouped [] = Unit {0}
Grouped (x ∷ xs) = (Begins x.owner xs ⊎ Lacks x.owner xs) × Grouped xs

abbrev pub or_else : Option ℕ → Option ℕ → Option ℕ
or_else None other = other
or_else (Some k) other = Some k

-- the last number of an owner
abbrev pub last_held : ℕ → List Owned → Option ℕ
last_held o [] = None
last_held o (x ∷ xs) = or_else (last_held o xs) (cond (nat_eq o x.owner) (Some x.node) None)

pub record AreGrouped (owners : List ℕ) (members : List ℕ) (size : ℕ) (newest : List Owned) : Type 0 where
  pub wide : length owners ≡ size
  pub differ : Differ (0 ∷ members)
  pub within : AllByRecursion (λ k. k ≤ size) members
  pub grouped : Grouped (map (owned_at owners) members)
  pub ascending : Ascending newest
  pub told : (o : ℕ) → lookup o newest ≡ last_held o (map (owned_at owners) members)
