-- What a log tells of the blocks that are asked for, of writes that are put off, and of the ops that each sync ends.
use Rattle.std.specs.Prelude.{◌≡◌, ◌⊎◌, ◌≤◌, ◌<◌, ℕ, Bool, true, false, cond, List, [], ◌∷◌, ◌++◌, ◌+◌, Contains}
use Rattle.std.specs.Prelude.{filter_map, length, scan, take, Option, Some, None, IfSome, slice_get}
use Rattle.std.specs.List.{list_any}
use Rattle.tape_types.specs.declared.cartridges.Place.{Place}
use Rattle.plain_tree.specs.History.{Calls, call_at}
use Rattle.plain_tree.specs.Refusals.{refusal_of}
use Rattle.plain_tree.specs.declared.calls.Call.{Call}
use Rattle.plain_tree.specs.declared.calls.Call.TheVariants.{Read}
use Rattle.plain_tree.specs.declared.calls.Fate.TheVariants as fates
use Rattle.plain_tree.specs.declared.calls.Placed.{Placed}
use Rattle.session_script.specs.declared.logs.Event.{Event}
use Rattle.session_script.specs.declared.logs.Event.TheVariants as events
use Rattle.head_queue.specs.EventLaws.Waiting.{State, ops, same_place, start}
use Rattle.head_queue.specs.EventLaws.Trail.{after}
use Rattle.space_laws.specs.Standing.{Given, Standing, admitted, admitted_at, standing, uid_at}
use Rattle.promises.specs.ServingPromise.Replies.{is_write}
use Rattle.promises.specs.ServingPromise.Served.{queued}
use Rattle.promises.specs.ServingPromise.Cached.{was_read}
use Rattle.promises.specs.ServingPromise.Submits.{blocks_in, passes}

-- ---- blocks

-- the place in the history for which a block is asked, and the block
abbrev pub want_of : Event → Option (ℕ × Place)
want_of (events.Wants ticket place) = Some (ticket, place)
want_of _ = None

abbrev pub is_read : Option Call → Bool
is_read (Some (Read path offset count)) = true
is_read _ = false

-- blocks are asked for by reads that are done, and by no other call
abbrev pub AreOfReads : Calls → List Placed → List Event → Type 0
AreOfReads calls history events = (ticket : ℕ) (place : Place) → Contains (filter_map want_of events) (ticket, place)
    → (p : Placed) × (slice_get history ticket ≡ Some p) × (p.fate ≡ fates.Done) × (is_read (call_at calls p) ≡ true)

-- the blocks that a read needs where the tree lets it pass, or only finds a byte of it lost
abbrev pub blocks_of : Standing → Option Call → List Place
blocks_of st (Some (Read path offset count)) =
    cond (passes (refusal_of st.tree (Read path offset count)))
    (blocks_in (st.files (uid_at st.tree.nodes path)) offset count) []
blocks_of st _ = []

-- each block that is asked for is one that the read at its ticket needs
abbrev pub AreNeeded : Given → Option ℕ → List Placed → List Event → Type 0
AreNeeded g on history events = (ticket : ℕ) (place : Place) → Contains (filter_map want_of events) (ticket, place)
    → (p : Placed) × (slice_get history ticket ≡ Some p)
    × Contains (blocks_of (standing g on history ticket) (call_at g.calls p)) place

-- the block is put by an op, or read without a fault
abbrev pub touches : Place → Event → Bool
touches place (events.Queues at) = same_place place at
touches place e = was_read place e

-- each block that a done read needs is asked for, or an op put it in this run, or it was read in this run
abbrev pub AreAsked : Given → Option ℕ → List Placed → List Event → Type 0
AreAsked g on history trail = (k : ℕ) (p : Placed) (place : Place) → slice_get history k ≡ Some p → p.fate ≡ fates.Done
    → Contains (blocks_of (standing g on history k) (call_at g.calls p)) place
    → Contains (filter_map want_of trail) (k, place) ⊎ (list_any (touches place) trail ≡ true)

-- ---- writes

abbrev pub stood_at : State → Event → Option ℕ
stood_at st (events.Queues place) = Some (length (ops st))
stood_at st _ = None

-- how many ops stood when each one was queued
abbrev pub stood : List Event → List ℕ
stood trail = filter_map (λ n. n) (scan after stood_at start trail)

abbrev pub is_write_at : Option Call → Bool
is_write_at None = false
is_write_at (Some call) = is_write call

-- No more than 64 ops stood when the first op of a write was queued. A write that admits no op leaves no event to
-- tell of it.
abbrev pub ArePutOff : Given → Option ℕ → List Placed → List Event → Type 0
ArePutOff g on history events = (k : ℕ) (p : Placed) → slice_get history k ≡ Some p
    → is_write_at (call_at g.calls p) ≡ true
    → 0 < length (admitted_at g on history k p)
    → IfSome (slice_get (stood events) (length (admitted g on (take k history)))) (λ n. n ≤ 64)

-- ---- syncs

-- Before each sync stand the ops of all placements up to its own, and no others: its index's too.
abbrev pub AreGrouped : Given → Option ℕ → List Placed → List Event → Type 0
AreGrouped g on history trail = (before later : List Event) (ticket : ℕ) → trail ≡ before ++ events.Syncs ticket ∷ later
    → length (filter_map queued before) ≡ length (admitted g on (take (ticket + 1) history))
