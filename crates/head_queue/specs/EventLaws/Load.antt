-- How much there is left to do, as a bound on what a request waits for.
use Rattle.std.specs.Prelude.{ℕ, ◌+◌, ◌≤◌, ◌≡◌, ◌||◌, ◌==◌, Bool, true, false, List, filter, fold, length}
use Rattle.std.specs.List.{list_any}
use Rattle.session_script.specs.declared.logs.Event.{Event}
use Rattle.session_script.specs.declared.logs.Event.TheVariants.{Wants, Queues, Syncs, Synced, Drains, Rests, Served}
use Rattle.session_script.specs.declared.logs.Event.TheVariants.{Worked}
use Rattle.head_queue.specs.EventLaws.Trail.{after, allows, is_trail_from, steps}
use Rattle.head_queue.specs.EventLaws.Waiting.{State, ops}

-- the requests, the ops that stand, the syncs that wait, and the sessions that drain
abbrev pub load : State → ℕ
load st = length st.requests + length (ops st) + length st.syncs + length st.drains

-- how much of it an event takes away at least
abbrev pub lowers : Event → ℕ
lowers (Served ticket place fault) = 1
lowers (Worked place fault) = 1
lowers _ = 0

-- a submission alone adds to it
abbrev pub IsSubmitted : Event → Type 0
IsSubmitted (Wants ticket place) = Unit {0}
IsSubmitted (Queues place) = Unit {0}
IsSubmitted (Syncs ticket) = Unit {0}
IsSubmitted (Drains who) = Unit {0}
IsSubmitted _ = ⊥

-- Each step of the head takes one away at least, and no answer adds to it.
abbrev pub StepsLowerTheLoad : Type 0
StepsLowerTheLoad = (st : State) (e : Event) → allows st e ≡ true → (IsSubmitted e → ⊥)
    → load (after st e) + lowers e ≤ load st

abbrev pub is_submitted : Event → Bool
is_submitted (Wants ticket place) = true
is_submitted (Queues place) = true
is_submitted (Syncs ticket) = true
is_submitted (Drains who) = true
is_submitted _ = false

-- A trail takes one away for each step at least, and adds one at most for each event of a submission.
abbrev pub TrailsChangeTheLoad : Type 0
TrailsChangeTheLoad = (st : State) (events : List Event) → is_trail_from st events ≡ true
    → load (fold after st events) + steps events ≤ load st + length (filter is_submitted events)

-- where a block or a flush has to come for a call, something is left to do
abbrev pub WaitsAreLoad : Type 0
WaitsAreLoad = (st : State) (ticket : ℕ)
    → (list_any (λ r. r.ticket == ticket) st.requests || list_any (λ s. s.ticket == ticket) st.syncs) ≡ true
    → 1 ≤ load st
