-- The newest number of each owner, in the order of the owners.
use Rattle.std.specs.Prelude.{ℕ, zero, suc, ◌<◌, ◌&&◌, not, Bool, cond, nat_eq, List, [], ◌∷◌, Option, Some, None}
use Rattle.std.specs.List.{AllByRecursion, slice_index_or}
use Rattle.head_queue.specs.declared.newest.Owned.{Owned}

-- the number that stands beside an owner
abbrev pub lookup : ℕ → List Owned → Option ℕ
lookup o [] = None
lookup o (x ∷ xs) = cond (nat_eq o x.owner) (Some x.node) (lookup o xs)

abbrev pub Ascending : List Owned → Type 0
Ascending [] = Unit {0}
Ascending (x ∷ xs) = AllByRecursion (λ (y : Owned). x.owner < y.owner) xs × Ascending xs

abbrev pub owner_at : List ℕ → ℕ → ℕ
owner_at owners zero = 0
owner_at owners (suc k) = slice_index_or owners k 0

abbrev pub owned_at : List ℕ → ℕ → Owned
owned_at owners k = record { owner = owner_at owners k; node = k }

abbrev pub number_or : Option ℕ → ℕ
number_or None = 0
number_or (Some k) = k

-- a number, if it isn't 0, is an owner's
abbrev pub holds : List ℕ → ℕ → ℕ → Bool
holds owners k owner = not (nat_eq k 0) && nat_eq owner (owner_at owners k)

-- what an owner's newest number is once a number was taken away: where that was the newest, the one before it, if that
-- is held too
abbrev pub left_over : Option ℕ → ℕ → Bool → ℕ → Option ℕ
left_over None number held before = None
left_over (Some k) number held before = cond (nat_eq k number) (cond held (Some before) None) (Some k)
