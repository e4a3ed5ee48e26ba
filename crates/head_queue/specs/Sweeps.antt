-- Requests that wait together on one partition and are served by the pick alone, and how far the head goes.
use Rattle.std.specs.Prelude.{◌≡◌, ℕ, ◌+◌, ◌-◌, ◌*◌, ◌≤◌, true, List, [], ◌∷◌, ◌++◌, length, map, ◌⊎◌}
use Rattle.std.specs.List.{AllByRecursion}
use Rattle.tape_types.specs.Cartridges.{next}
use Rattle.tape_types.specs.declared.cartridges.Place.{Place}
use Rattle.head_queue.specs.EventLaws.Waiting.{request_key, is_least}
use Rattle.head_queue.specs.Cuts.{Differ}
use Rattle.head_queue.specs.Waiting.{Waiting, request}

-- how many positions the head passes on its way to these positions, one after the other; it stands behind what it read
abbrev pub travel_over : ℕ → List ℕ → ℕ
travel_over head [] = 0
travel_over head (p ∷ ps) = (head - p) + (p - head) + travel_over (p + 1) ps

-- the same, with the blocks that it reads
abbrev pub way_over : ℕ → List ℕ → ℕ
way_over head ps = travel_over head ps + length ps

-- a position is one of them
abbrev pub Among : ℕ → List ℕ → Type 0
Among p [] = ⊥
Among p (q ∷ qs) = (p ≡ q) ⊎ Among p qs

abbrev pub pos_of : Waiting → ℕ
pos_of w = w.place.pos

-- the request has the least key of these that wait
pub record IsNext (head : Place) (waiting : List Waiting) (w : Waiting) : Type 0 where
  pub front : List Waiting
  pub behind : List Waiting
  pub parts : waiting ≡ front ++ w ∷ behind
  pub least : is_least (request_key head (request w)) (map (request_key head) (map request waiting)) ≡ true

-- in this order they are picked, with the head behind each that was read, till none is left
abbrev pub IsSwept : Place → List Waiting → List Waiting → Type 0
IsSwept head waiting [] = waiting ≡ []
IsSwept head waiting (w ∷ order) = (n : IsNext head waiting w) × IsSwept (next w.place) (n.front ++ n.behind) order

-- Where requests wait on the head's partition, each at a position of its own, the head passes and reads at most twice
-- as many blocks as on any other way that comes to each of these positions.
abbrev pub SweepsAreShort : Type 0
SweepsAreShort = (head : Place) (waiting order : List Waiting) (other : List ℕ)
    → AllByRecursion (λ (w : Waiting). w.place.part ≡ head.part) waiting
    → Differ (map pos_of waiting)
    → IsSwept head waiting order
    → AllByRecursion (λ (w : Waiting). Among w.place.pos other) waiting
    → way_over head.pos (map pos_of order) ≤ 2 * way_over head.pos other
