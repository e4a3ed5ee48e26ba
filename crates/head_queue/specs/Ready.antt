-- What is kept of the requests, of their owners, and of the numbers that are free.
use Rattle.std.specs.Prelude.{◌≡◌, ℕ, ◌<◌, ◌≤◌, List, ◌∷◌, ◌++◌, length, map}
use Rattle.std.specs.List.{AllByRecursion}
use Rattle.head_queue.specs.Waiting.{Waiting}
use Rattle.head_queue.specs.Cuts.{Differ}
use Rattle.head_queue.specs.declared.newest.Owned.{Owned}
use Rattle.head_queue.specs.Holdings.{owner_of}

abbrev pub node_of : Waiting → ℕ
node_of w = w.node

abbrev pub owned : Waiting → Owned
owned w = record { owner = w.owner; node = w.node }

-- they are the numbers from 1 to a size, each once
pub record AreNumbers (xs : List ℕ) (size : ℕ) : Type 0 where
  pub differ : Differ (0 ∷ xs)
  pub within : AllByRecursion (λ k. k ≤ size) xs
  pub counted : length xs ≡ size

-- each number is free or has a request, and the owners are those of the requests
pub record AreReady (order : List Waiting) (size : ℕ) (pairs : List Owned) (wide : ℕ) (free : List ℕ)
    (arrived capacity : ℕ) : Type 0 where
  pub early : AllByRecursion (λ (w : Waiting). w.arrival < arrived) order
  pub numbers : AreNumbers (free ++ map node_of order) size
  pub room : size ≤ capacity
  pub alike : wide ≡ size
  pub agree : (k : ℕ) → owner_of k (map owned order) ≡ owner_of k pairs
  pub counted : length pairs ≡ length order
