-- By what the head of a drive chooses among what waits for it.
use Rattle.std.specs.Prelude.{ℕ, ◌+◌, Bool, nat_lt, List, [], ◌∷◌, map, Option, Some, None}
use Rattle.std.specs.Ordering.{nat_cmp, is_le}
use Rattle.std.specs.Cmp.Lexicographic.{slice_cmp}
use Rattle.tape_types.specs.declared.cartridges.Place.{Place}
use Rattle.head_queue.specs.EventLaws.Waiting.{Request, as_number, key, request_key}
use Rattle.head_queue.specs.Waiting.{Waiting, request}

-- how what stands at a position, and came behind so many, stands to a head at another position of its partition
abbrev pub key_within : ℕ → ℕ → ℕ → List ℕ
key_within head pos arrival = as_number (nat_lt pos head) ∷ pos ∷ arrival ∷ []

-- the keys of all that waits for the head: of an op at a place, where one waits, and of each request
abbrev pub keys_at : Place → Option Place → List Request → List (List ℕ)
keys_at head None requests = map (request_key head) requests
keys_at head (Some op) requests = key head op 0 ∷ map (request_key head) requests

abbrev pub is_upto : List ℕ → List ℕ → Bool
is_upto k other = is_le (slice_cmp nat_cmp k other)

-- of two requests of the head's partition, the first is served no later than the second
abbrev pub comes_first : ℕ → Waiting → Waiting → Bool
comes_first head a b =
    is_upto (key_within head a.place.pos (a.arrival + 1)) (key_within head b.place.pos (b.arrival + 1))

-- of two requests, the first is served no later than the second
abbrev pub stands_in : Place → Waiting → Waiting → Bool
stands_in head a b = is_upto (request_key head (request a)) (request_key head (request b))
