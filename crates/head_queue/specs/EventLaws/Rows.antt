-- The trails of worked runs, on which the definitions are tried.
use Rattle.std.specs.Prelude.{ℕ, List, [], ◌∷◌, ◌++◌, map, Option, Some, None}
use Rattle.std.specs.List.{range_with_len}
use Rattle.tape_types.specs.declared.cartridges.Part.TheVariants.{Ip, Dp}
use Rattle.tape_types.specs.declared.cartridges.Place.{Place}
use Rattle.tape_types.specs.declared.cartridges.Twin.{Twin}
use Rattle.head_queue.specs.EventLaws.Waiting.{State, Request, start}
use Rattle.session_script.specs.declared.logs.Event.{Event}
use Rattle.session_script.specs.declared.logs.Event.TheVariants.{Wants, Queues, Syncs, Synced, Drains, Rests, Served}
use Rattle.session_script.specs.declared.logs.Event.TheVariants.{Worked}

abbrev pub dp : ℕ → Place
dp pos = record { part = Dp; pos = pos }

abbrev pub ip : ℕ → Place
ip pos = record { part = Ip; pos = pos }

abbrev pub twin : ℕ → ℕ → Twin
twin before after = record { before = before; after = after }

abbrev pub fault : ℕ → ℕ → Option Twin
fault before after = Some (twin before after)

abbrev pub queues : ℕ → ℕ → List Event
queues from count = map (λ pos. Queues (dp pos)) (range_with_len from count)

abbrev pub works : ℕ → ℕ → List Event
works from count = map (λ pos. Worked (dp pos) None) (range_with_len from count)

-- a file is written, synchronised and read
abbrev pub one_sync : List Event
one_sync = queues 7 5 ++ Syncs 2 ∷ (works 7 5 ++ Synced 2 ∷ Wants 3 (dp 7) ∷ Served 3 (dp 7) None ∷ [])

-- a second session makes a directory and synchronises while the first one's read waits
abbrev pub two_sessions : List Event
two_sessions = queues 7 5
    ++ Syncs 2
    ∷ (works 7 5
    ++ Synced 2 ∷ Wants 4 (dp 7) ∷ (queues 11 4 ++ Syncs 5 ∷ (works 11 4 ++ Synced 5 ∷ Served 4 (dp 7) None ∷ [])))

-- the same, where the second session's directory was there before the first sync
abbrev pub two_sessions_early : List Event
two_sessions_early = queues 7 5
    ++ Syncs 3 ∷ (works 7 5 ++ Synced 3 ∷ Wants 4 (dp 7) ∷ Syncs 5 ∷ Synced 5 ∷ Served 4 (dp 7) None ∷ [])

-- a file goes to the index partition, and is flushed there before the index that names it
abbrev pub placed_on_ip : List Event
placed_on_ip = Queues (ip 4) ∷ Queues (ip 5)
    ∷ (queues 7 4 ++ Syncs 2 ∷ Worked (ip 4) None ∷ Worked (ip 5) None ∷ (works 7 4 ++ Synced 2 ∷ []))

-- three writes fill the partition but for its reserve
abbrev pub full_partition : List Event
full_partition = queues 7 49 ++ Syncs 5 ∷ (works 7 49 ++ Synced 5 ∷ [])

-- the second write of the drive fails, and the next sync goes on with the same op
abbrev pub failed_write : List Event
failed_write = queues 7 5 ++ Syncs 2 ∷ (works 7 2 ++ Worked (dp 9) (fault 0 1) ∷ Syncs 3 ∷ (works 9 3 ++ Synced 3 ∷ []))

-- 80 ops stand, and 16 of them are drained
abbrev pub drained : List Event
drained = queues 7 80 ++ Drains 1 ∷ (works 7 16 ++ Rests 1 ∷ queues 87 16)

-- the drain's second op fails
abbrev pub failed_drain : List Event
failed_drain = queues 7 80 ++ Drains 1 ∷ Worked (dp 7) None ∷ Worked (dp 8) (fault 0 1) ∷ []

-- the flush fails, and the read that follows doesn't do it again
abbrev pub failed_flush : List Event
failed_flush = queues 7 5
    ++ Syncs 2 ∷ (works 7 4 ++ Worked (dp 11) (fault 0 1) ∷ Wants 3 (dp 7) ∷ Served 3 (dp 7) None ∷ [])

-- the head stands at a position of the data partition, and requests wait, each of a read of its own
abbrev pub with_requests : ℕ → List Request → State
with_requests pos requests = record start { head = dp pos; arrived = 3; requests = requests }

abbrev pub request : ℕ → ℕ → ℕ → Request
request ticket pos arrival = record { ticket = ticket; place = dp pos; arrival = arrival }

abbrev pub three_requests : List Request
three_requests = request 1 90 0 ∷ request 2 20 1 ∷ request 3 50 2 ∷ []

-- with the head at 20, one block is wanted at 10 and then one at 30
abbrev pub two_reads : List Event
two_reads = Wants 0 (dp 10) ∷ Wants 1 (dp 30) ∷ Served 1 (dp 30) None ∷ Served 0 (dp 10) None ∷ []

-- ---- damaged in one way each

-- the second op before the first
abbrev pub op_out_of_order : List Event
op_out_of_order = queues 7 5 ++ Syncs 2 ∷ (works 8 1 ++ works 7 1 ++ works 9 3 ++ Synced 2 ∷ [])

-- the read that waits is served though the sync's op has the lesser key
abbrev pub read_too_early : List Event
read_too_early = queues 7 5
    ++ Syncs 2 ∷ (works 7 5 ++ Synced 2 ∷ Wants 4 (dp 7) ∷ (queues 11 4 ++ Syncs 5 ∷ Served 4 (dp 7) None ∷ []))

-- the block behind the head is read before the one ahead of it
abbrev pub reads_backwards : List Event
reads_backwards = Wants 0 (dp 10) ∷ Wants 1 (dp 30) ∷ Served 0 (dp 10) None ∷ Served 1 (dp 30) None ∷ []

-- the sync is answered before its flush
abbrev pub answered_early : List Event
answered_early = queues 7 5 ++ Syncs 2 ∷ (works 7 4 ++ Synced 2 ∷ [])

-- the sync's flush is done, and a read comes before its answer
abbrev pub answered_late : List Event
answered_late = queues 7 5 ++ Syncs 2 ∷ (works 7 5 ++ Wants 3 (dp 7) ∷ Synced 2 ∷ [])

-- a sync with no change is answered while an op of an earlier one stands
abbrev pub answered_over_another : List Event
answered_over_another = queues 7 5 ++ Syncs 2 ∷ Syncs 3 ∷ (works 7 4 ++ Synced 3 ∷ [])

-- an op is done though nobody waits for it
abbrev pub op_for_nobody : List Event
op_for_nobody = queues 7 5 ++ Worked (dp 7) None ∷ []

-- the failed flush is done again while a read alone waits
abbrev pub op_for_a_read : List Event
op_for_a_read = queues 7 5
    ++ Syncs 2
    ∷ (works 7 4 ++ Worked (dp 11) (fault 0 1) ∷ Wants 3 (dp 7) ∷ Worked (dp 11) None ∷ Served 3 (dp 7) None ∷ [])

-- the op that failed is left out, and the next one done
abbrev pub op_dropped : List Event
op_dropped = queues 7 5 ++ Syncs 2 ∷ (works 7 2 ++ Worked (dp 9) (fault 0 1) ∷ Syncs 3 ∷ (works 10 2 ++ Synced 3 ∷ []))

-- a session drains while no more than 64 ops stand
abbrev pub drains_early : List Event
drains_early = queues 7 64 ++ Drains 1 ∷ []

-- a session rests while 65 ops stand
abbrev pub rests_early : List Event
rests_early = queues 7 80 ++ Drains 1 ∷ (works 7 15 ++ Rests 1 ∷ [])

-- a block that an op holds is read from the tape
abbrev pub wants_what_is_held : List Event
wants_what_is_held = queues 7 1 ++ Wants 2 (dp 7) ∷ []

-- one block of a read fails, and its other block is read
abbrev pub read_after_fault : List Event
read_after_fault = Wants 0 (dp 10) ∷ Wants 0 (dp 30) ∷ Served 0 (dp 10) (fault 0 1) ∷ Served 0 (dp 30) None ∷ []

-- what is flushed on the index partition comes after the index that names it
abbrev pub ip_after_dp : List Event
ip_after_dp = Queues (ip 4) ∷ Queues (ip 5)
    ∷ (queues 7 4 ++ Syncs 2 ∷ Worked (ip 4) None ∷ (works 7 4 ++ Worked (ip 5) None ∷ Synced 2 ∷ []))

-- two syncs wait, and an op fails twice
abbrev pub two_faults : List Event
two_faults = queues 7 5 ++ Syncs 2 ∷ Syncs 3 ∷ (works 7 2 ++ Worked (dp 9) (fault 0 1) ∷ Worked (dp 9) (fault 1 2) ∷ [])

-- a sync waits and a session drains, and an op fails twice: first for the sync, and then for the session
abbrev pub both_wait : List Event
both_wait = queues 7 80 ++ Drains 2 ∷ Syncs 3 ∷ Worked (dp 7) (fault 0 1) ∷ Worked (dp 7) (fault 1 2) ∷ []

-- a sync waits while an op and a request stand at one place of the two partitions
abbrev pub with_op : Place → Place → State
with_op head place = record start {
  head = head;
  requests = record { ticket = 1; place = place; arrival = 0 } ∷ [];
  group = place ∷ [];
  syncs = record { ticket = 2; due = 1 } ∷ [];
}
