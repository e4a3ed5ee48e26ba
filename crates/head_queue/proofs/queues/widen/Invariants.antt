use Rattle.std.proofs.Common.{◌≡◌, ℕ, ◌+◌, ◌≤◌, vec_len, vec_capacity}
use Rattle.head_queue.specs.Ready.{AreReady}
use Rattle.head_queue.proofs.queues.widen.Given as goal

abbrev pub invariant-loop : goal.invariant-loop
invariant-loop l = (l.places.order ≡ l.fn.places.order)
    × (l.places.size ≡ l.fn.places.size + l.counter)
    × (l.fn.places.spare ≤ l.places.spare + l.counter)
    × (l.owners.pairs ≡ l.fn.owners.pairs)
    × (l.owners.size ≡ l.fn.owners.size + l.counter)
    × (l.fn.owners.spare ≤ l.owners.spare + l.counter)
    × (l.owners.room ≡ l.fn.owners.room)
    × (vec_len l.free ≡ vec_len l.fn.free + l.counter)
    × (vec_capacity l.fn.free ≤ vec_capacity l.free)
    × ((arrived : ℕ) → AreReady l.fn.places.order l.fn.places.size l.fn.owners.pairs l.fn.owners.size l.fn.free.items arrived (vec_capacity l.fn.free)
    → AreReady l.places.order l.places.size l.owners.pairs l.owners.size l.free.items arrived (vec_capacity l.free))
