-- The numbers of each owner.
use Rattle.std.specs.Prelude.{ℕ, cond, nat_eq, List, [], ◌∷◌, Option, Some, None}
use Rattle.head_queue.specs.declared.newest.Owned.{Owned}

-- each number with its owner, how many numbers there are, for how many more there is room, and for how many owners
pub record Holdings : Type 0 where
  pub pairs : List Owned
  pub size : ℕ
  pub spare : ℕ
  pub room : ℕ

-- whose a number is
abbrev pub owner_of : ℕ → List Owned → Option ℕ
owner_of k [] = None
owner_of k (x ∷ xs) = cond (nat_eq k x.node) (Some x.owner) (owner_of k xs)
