-- What waits under each number.
use Rattle.std.specs.Prelude.{ℕ, zero, suc, List, Option, Some, None}
use Rattle.std.specs.List.{slice_index_or}
use Rattle.tape_types.specs.declared.cartridges.Part.TheVariants.{Ip}
use Rattle.head_queue.specs.declared.entries.QueueEntry.{QueueEntry}
use Rattle.head_queue.specs.Waiting.{Waiting}

abbrev pub entry_at : List (Option QueueEntry) → ℕ → Option QueueEntry
entry_at entries zero = None
entry_at entries (suc k) = slice_index_or entries k None

-- where there is none, any
abbrev pub entry_or : Option QueueEntry → QueueEntry
entry_or None = record { owner = 0; place = record { part = Ip; pos = 0 }; arrival = 0 }
entry_or (Some e) = e

-- the request under a number
abbrev pub waiting : ℕ → Option QueueEntry → Waiting
waiting k o =
    record { node = k; owner = (entry_or o).owner; place = (entry_or o).place; arrival = (entry_or o).arrival }

abbrev pub waiting_at : List (Option QueueEntry) → ℕ → Waiting
waiting_at entries k = waiting k (entry_at entries k)
