-- The requests that wait, in the order in which they came.
use Rattle.std.specs.Prelude.{ℕ, nat_le, cond, List, [], ◌∷◌, map}
use Rattle.head_queue.specs.EventLaws.Waiting.{Request}
use Rattle.head_queue.specs.Waiting.{Waiting, request}

-- the requests by arrival, how many have come so far, and how many more may come before the next reserve
pub record Queued : Type 0 where
  pub waiting : List Waiting
  pub arrived : ℕ
  pub spare : ℕ

-- as a trail has them
abbrev pub requests : Queued → List Request
requests q = map request q.waiting

-- put before the first that didn't come before it
abbrev pub put_in : Waiting → List Waiting → List Waiting
put_in w [] = w ∷ []
put_in w (v ∷ vs) = cond (nat_le w.arrival v.arrival) (w ∷ v ∷ vs) (v ∷ put_in w vs)

abbrev pub by_arrival : List Waiting → List Waiting
by_arrival [] = []
by_arrival (w ∷ ws) = put_in w (by_arrival ws)
