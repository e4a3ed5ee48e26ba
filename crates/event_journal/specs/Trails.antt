-- The events of a served volume as they are kept, with what they leave.
use Rattle.std.specs.Prelude.{◌≡◌, ℕ, ◌+◌, ◌≤◌, Bool, true, false, ◌∷◌, [], List, Option, Some, None, map, cond}
use Rattle.std.specs.Prelude.{nat_le, length, drop}
use Rattle.tape_types.specs.declared.cartridges.Twin.{Twin}
use Rattle.session_script.specs.declared.logs.Ack.{Ack}
use Rattle.tape_types.specs.declared.cartridges.Place.{Place}
use Rattle.session_script.specs.declared.logs.Event.{Event}
use Rattle.session_script.specs.declared.logs.Event.TheVariants.{Wants, Queues, Syncs, Synced, Drains, Rests}
use Rattle.session_script.specs.declared.logs.Event.TheVariants.{Worked}
use Rattle.head_queue.specs.EventLaws.Waiting as waiting
use Rattle.head_queue.specs.EventLaws.Waiting.{State, ops}
use Rattle.head_queue.specs.EventLaws.Trail.{IsTrail, after_all}
use Rattle.head_queue.specs.EventLaws.Load.{load}
use Rattle.event_journal.specs.declared.trails.KeptFault.{KeptFault}
use Rattle.event_journal.specs.declared.trails.SyncWait.{SyncWait}
use Rattle.event_journal.specs.declared.trails.Waiter.{Waiter}
use Rattle.event_journal.specs.declared.trails.Waiter.TheVariants as waiters

-- The events, the acknowledgements, the faults that are kept for sessions that drained; for how many more that ask for
-- something there is room beside what they will bring, and for how many more that wait.
pub record Journaled : Type 0 where
  pub events : List Event
  pub acks : List Ack
  pub kept : List (ℕ × Twin)
  pub spare : ℕ
  pub waiters : ℕ

-- what they leave
abbrev pub state : Journaled → State
state j = after_all j.events

-- a sync as it waits
abbrev pub waiter_of : SyncWait → waiting.Waiter
waiter_of s = record { ticket = s.ticket; due = s.due }

abbrev pub kept_as : KeptFault → ℕ × Twin
kept_as k = (k.who, k.counts)

-- where no sync waits, a fault of an op is kept for the session that has drained longest
abbrev pub kept_by : List waiting.Waiter → List ℕ → Twin → List (ℕ × Twin)
kept_by (s ∷ more) drains counts = []
kept_by [] (who ∷ more) counts = (who, counts) ∷ []
kept_by [] [] counts = []

-- the same, of syncs as they are kept
abbrev pub kept_from : List SyncWait → List ℕ → Twin → List (ℕ × Twin)
kept_from (s ∷ more) drains counts = []
kept_from [] (who ∷ more) counts = (who, counts) ∷ []
kept_from [] [] counts = []

-- the sessions that drain once who has waited longest waits no more
abbrev pub drains_left : List SyncWait → List ℕ → List ℕ
drains_left (s ∷ more) drains = drains
drains_left [] drains = drop 1 drains

abbrev pub kept_for_drain : State → Twin → List (ℕ × Twin)
kept_for_drain st counts = kept_by st.syncs st.drains counts

-- how many more there are to bring an event of their own once it has come: a request, an op, a sync or a drain
abbrev pub asked_by : Event → ℕ
asked_by (Wants ticket place) = 1
asked_by (Queues place) = 1
asked_by (Syncs ticket) = 1
asked_by (Drains who) = 1
asked_by _ = 0

-- how many more wait once it has come
abbrev pub waiters_of : Event → ℕ
waiters_of (Syncs ticket) = 1
waiters_of (Drains who) = 1
waiters_of _ = 0

-- it adds a waiter, or takes one
abbrev pub moves_waiters : Event → Bool
moves_waiters (Syncs ticket) = true
moves_waiters (Synced ticket) = true
moves_waiters (Drains who) = true
moves_waiters (Rests who) = true
moves_waiters (Worked place (Some counts)) = true
moves_waiters _ = false

-- its acknowledgement, which bears this number of commands
abbrev pub acks_of : ℕ → Event → List Ack
acks_of commands (Synced ticket) = record { place = ticket; command = commands } ∷ []
acks_of commands _ = []

-- the fault of it that is kept for a session that drains
abbrev pub kept_of : State → Event → List (ℕ × Twin)
kept_of st (Worked place (Some counts)) = kept_for_drain st counts
kept_of st _ = []

-- What is kept beside the events is what they leave, and how many ops they have queued, done or not. There is room for
-- all that they will bring.
pub record IsTracked (events : List Event) (syncs : List SyncWait) (drains : List ℕ) (queued done : ℕ) (head : Place)
    (bound for_events for_acks for_kept : ℕ) : Type 0 where
  pub trail : IsTrail events
  pub syncs_are : map waiter_of syncs ≡ (after_all events).syncs
  pub drains_are : drains ≡ (after_all events).drains
  pub queued_is : queued ≡ length (ops (after_all events)) + (after_all events).done
  pub few : queued ≤ length events
  pub done_is : done ≡ (after_all events).done
  pub head_is : head ≡ (after_all events).head
  pub bounded : load (after_all events) ≤ bound
  pub room : bound ≤ for_events
  pub acks : length syncs ≤ for_acks
  pub kept : length drains ≤ for_kept

-- who has waited longest: a sync before each session
abbrev pub longest : List waiting.Waiter → List ℕ → Option Waiter
longest (s ∷ more) drains = Some (waiters.Sync s.ticket)
longest [] (who ∷ more) = Some (waiters.Drain who)
longest [] [] = None

abbrev pub first_waiter : State → Option Waiter
first_waiter st = longest st.syncs st.drains

-- the sync that has waited longest, where it has no more to wait for
abbrev pub due_of : ℕ → List waiting.Waiter → Option ℕ
due_of done [] = None
due_of done (s ∷ more) = cond (nat_le s.due done) (Some s.ticket) None

abbrev pub due_ticket : State → Option ℕ
due_ticket st = due_of st.done st.syncs
