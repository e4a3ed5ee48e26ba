-- The laws of a volume whose replies and ops are true.
use Rattle.std.specs.Prelude.{◌≡◌, ◌≤◌, ◌<◌, ◌+◌, ◌++◌, ℕ, List, [], ◌∷◌, length, Contains, Option, Some, None}
use Rattle.std.specs.Prelude.{slice_get}
use Rattle.tape_types.specs.declared.moments.Moment.{Moment}
use Rattle.tape_types.specs.declared.cartridges.Twin.{Twin}
use Rattle.plain_tree.specs.declared.calls.Call.{Call}
use Rattle.plain_tree.specs.declared.calls.Fate.{Fate}
use Rattle.plain_tree.specs.declared.calls.Fate.TheVariants as fates
use Rattle.plain_tree.specs.declared.calls.Placed.{Placed}
use Rattle.session_script.specs.declared.logs.Event.{Event}
use Rattle.session_script.specs.declared.logs.Reply.{Reply}
use Rattle.session_script.specs.declared.logs.Reply.TheVariants as replies
use Rattle.head_queue.specs.EventLaws.Trail.{IsTrail, Owner, of_call, of_session, owned_by}
use Rattle.space_laws.specs.Standing.{Given, admitted, admitted_at, after_placed, asked, is_on, limit_at, need_at}
use Rattle.space_laws.specs.Standing.{standing}
use Rattle.promises.specs.ServingPromise.Faults.{AreFaults}
use Rattle.promises.specs.ServingPromise.Served.{Drive, IsTrue, View}
use Rattle.promises.specs.ServingPromise.Steps.{DrainsOnce, Turns, on_after}
use Rattle.promises.specs.ServingPromise.Submits.{Submits}
use Rattle.promises.specs.declared.serving_promise.answers.Drained.{Drained}
use Rattle.promises.specs.declared.serving_promise.answers.Submitted.{Submitted}
use Rattle.promises.specs.declared.serving_promise.answers.Turn.{Turn}
use Rattle.promises.specs.ReplyLaws.Sides.{DrainsTruly, StepsTruly, SubmitsTruly}

-- ---- a history that goes on

-- What stands, is asked, needed and admitted at a place stays as the history goes on by a placement. What stands behind
-- that placement is what it leaves, and the ops of the history are those that were admitted and those that it admits.
pub record StandingGoesOn (g : Given) (on : Option ℕ) (history : List Placed) (p : Placed) : Type 0 where
  pub stands : (k : ℕ) → k ≤ length history → standing g on (history ++ p ∷ []) k ≡ standing g on history k
  pub asks : (k : ℕ) (call : Call) (at : Moment) → k ≤ length history
      → asked g on (history ++ p ∷ []) k call at ≡ asked g on history k call at
  pub needs : (k : ℕ) (call : Call) (at : Moment) → k ≤ length history
      → need_at g on (history ++ p ∷ []) k call at ≡ need_at g on history k call at
  pub has : (k : ℕ) (call : Call) (at : Moment) → k ≤ length history
      → limit_at g on (history ++ p ∷ []) k call at ≡ limit_at g on history k call at
  pub admits : (k : ℕ) (q : Placed) → k ≤ length history
      → admitted_at g on (history ++ p ∷ []) k q ≡ admitted_at g on history k q
  pub behind : standing g on (history ++ p ∷ []) (length history + 1)
      ≡ after_placed g (is_on g.mounted on (length history)) (standing g on history (length history)) p
  pub all_admitted : admitted g on (history ++ p ∷ [])
      ≡ admitted g on history ++ admitted_at g on history (length history) p

-- Where placement on the index partition goes on at the end of the history, nothing changes of the places before, nor
-- of what stands at the end.
pub record PlacementGoesOn (g : Given) (history : List Placed) : Type 0 where
  pub stands : (k : ℕ) → standing g (Some (length history)) history k ≡ standing g None history k
  pub asks : (k : ℕ) (call : Call) (at : Moment)
      → asked g (Some (length history)) history k call at ≡ asked g None history k call at
  pub needs : (k : ℕ) (call : Call) (at : Moment) → k < length history
      → need_at g (Some (length history)) history k call at ≡ need_at g None history k call at
  pub has : (k : ℕ) (call : Call) (at : Moment) → k < length history
      → limit_at g (Some (length history)) history k call at ≡ limit_at g None history k call at
  pub admits : (k : ℕ) (q : Placed) → k < length history
      → admitted_at g (Some (length history)) history k q ≡ admitted_at g None history k q
  pub all_admitted : admitted g (Some (length history)) history ≡ admitted g None history

-- ---- faults

-- who owns the fault that the placement at k is told: the call, or, where it is void, its session
abbrev pub teller : ℕ → Placed → Fate → Owner
teller k p fates.Done = of_call k
teller k p fates.Void = of_session p.who

-- who owns a fault keeps it, whatever events follow
abbrev pub OwnersKeepFaults : Type 0
OwnersKeepFaults = (owner : Owner) (events added : List Event) (counts : Twin) → Contains (owned_by owner events) counts
    → Contains (owned_by owner (events ++ added)) counts

-- where each fault is told to its owner, a fault that a placement is told is its own, or, of a void one, its session's
abbrev pub ToldFaultsAreOwned : Type 0
ToldFaultsAreOwned =
    (history : List Placed) (events : List Event) (kept : List (Option Reply)) (waiting : List (ℕ × Twin))
    (before now : ℕ) → AreFaults history events kept waiting before now → (k : ℕ) (p : Placed) (counts : Twin)
    → slice_get history k ≡ Some p → slice_get kept k ≡ Some (Some (replies.Fault counts))
    → Contains (owned_by (teller k p p.fate) events) counts

-- ---- calls, over any device that is seen as a drive

abbrev pub SubmissionsStayTrue : {D : Type 0} → (D → Drive) → Type 0
SubmissionsStayTrue {D} seen = (first now : D) (old new : View D) (who nth : ℕ) (answer : Submitted)
    → IsTrue (seen first) old → Submits (seen first) (seen now) old new who nth answer
    → SubmitsTruly (seen first) old new who nth answer → IsTrue (seen first) new

abbrev pub TurnsStayTrue : {D : Type 0} → (D → Drive) → Type 0
TurnsStayTrue {D} seen = (most : ℕ) (first before now : D) (old new : View D) (who ticket : ℕ) (answer : Turn)
    → IsTrue (seen first) old → Turns most (seen before) (seen now) old new who ticket answer → IsTrail new.events
    → StepsTruly (seen first) old new → IsTrue (seen first) new

abbrev pub DrainTurnsStayTrue : {D : Type 0} → (D → Drive) → Type 0
DrainTurnsStayTrue {D} seen = (most : ℕ) (first before now : D) (old new : View D) (who : ℕ) (answer : Drained)
    → IsTrue (seen first) old → DrainsOnce most (seen before) (seen now) old new who answer → IsTrail new.events
    → DrainsTruly (seen first) old new who answer → IsTrue (seen first) new

-- a step that turns placement on leaves the replies and the ops as true as they were
abbrev pub FlushesTurnPlacementOn : {D : Type 0} → (D → Drive) → Type 0
FlushesTurnPlacementOn {D} seen = (first : D) (old : View D) (added : List Event) → IsTrue (seen first) old
    → IsTrue (seen first) (record old { on = on_after old added })
