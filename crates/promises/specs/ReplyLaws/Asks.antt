-- What the events of a volume tell of the blocks that are asked for, of writes that are put off, and of the ops that
-- each sync ends, kept over each call.
use Rattle.std.specs.Prelude.{◌≡◌, ◌<◌, ◌++◌, ℕ, List, [], ◌∷◌, Contains, filter_map, length, map}
use Rattle.tape_types.specs.declared.cartridges.Place.{Place}
use Rattle.plain_tree.specs.declared.calls.Placed.{Placed}
use Rattle.session_script.specs.declared.logs.Event.{Event}
use Rattle.session_script.specs.declared.logs.Event.TheVariants as events
use Rattle.head_queue.specs.EventLaws.Waiting.{Op}
use Rattle.promises.specs.ServingPromise.Acks.{syncs_ticket}
use Rattle.promises.specs.ServingPromise.Asking.{AreAsked, AreGrouped, AreNeeded, AreOfReads, ArePutOff}
use Rattle.promises.specs.ServingPromise.Cached.{IsCache}
use Rattle.promises.specs.ServingPromise.Served.{Drive, IsTrue, View, given, queued}
use Rattle.promises.specs.ServingPromise.Steps.{DrainsOnce, Turns}
use Rattle.promises.specs.ServingPromise.Submits.{Submits, queues_at, synced_at}
use Rattle.promises.specs.declared.serving_promise.answers.Drained.{Drained}
use Rattle.promises.specs.declared.serving_promise.answers.Submitted.{Submitted}
use Rattle.promises.specs.declared.serving_promise.answers.Turn.{Turn}

-- each sync that began has its place in the history
abbrev pub AreBegun : List Placed → List Event → Type 0
AreBegun history events = (ticket : ℕ) → Contains (filter_map syncs_ticket events) ticket → ticket < length history

pub record AsksTruly {D : Type 0} (first : Drive) (v : View D) : Type 0 where
  pub of_reads : AreOfReads (given v first).calls v.history v.events
  pub needed : AreNeeded (given v first) v.on v.history v.events
  pub asked : AreAsked (given v first) v.on v.history v.events
  pub put_off : ArePutOff (given v first) v.on v.history v.events
  pub grouped : AreGrouped (given v first) v.on v.history v.events
  pub begun : AreBegun v.history v.events

-- a volume of which nothing was asked yet
abbrev pub AskingBegins : {D : Type 0} → (D → Drive) → Type 0
AskingBegins {D} seen = (first : D) (v : View D) → v.history ≡ [] → v.events ≡ [] → AsksTruly (seen first) v

-- what the events of a submission queue: the ops of a write or of a sync, and nothing for a read
pub record QueueTheirOps : Type 0 where
  pub write : (places : List Place) → filter_map queued (queues_at places) ≡ places
  pub sync : (here : ℕ) (places : List Place) (stand : List Op)
      → filter_map queued (queues_at places ++ events.Syncs here ∷ synced_at here stand) ≡ places
  pub read : (here : ℕ) (places : List Place)
      → filter_map queued (map (λ place. events.Wants here place) places) ≡ []

abbrev pub SubmissionsAskTruly : {D : Type 0} → (D → Drive) → Type 0
SubmissionsAskTruly {D} seen = (first now : D) (old new : View D) (who nth : ℕ) (answer : Submitted)
    → IsTrue (seen first) old → IsTrue (seen first) new → IsCache old.events old.cached
    → Submits (seen first) (seen now) old new who nth answer → AsksTruly (seen first) old → AsksTruly (seen first) new

abbrev pub TurnsAskTruly : {D : Type 0} → (D → Drive) → Type 0
TurnsAskTruly {D} seen = (most : ℕ) (first before now : D) (old new : View D) (who ticket : ℕ) (answer : Turn)
    → IsTrue (seen first) old → Turns most (seen before) (seen now) old new who ticket answer
    → AsksTruly (seen first) old → AsksTruly (seen first) new

abbrev pub DrainTurnsAskTruly : {D : Type 0} → (D → Drive) → Type 0
DrainTurnsAskTruly {D} seen = (most : ℕ) (first before now : D) (old new : View D) (who : ℕ) (answer : Drained)
    → IsTrue (seen first) old → DrainsOnce most (seen before) (seen now) old new who answer
    → AsksTruly (seen first) old → AsksTruly (seen first) new
