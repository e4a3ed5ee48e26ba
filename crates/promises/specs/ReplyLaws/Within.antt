-- What is known of a place whose reply isn't there yet, with which a step has only its answer to show.
use Rattle.std.specs.Prelude.{◌≡◌, ◌⊎◌, ◌++◌, ℕ, true, false, List, [], Option, Some, None, slice_get}
use Rattle.plain_tree.specs.Calls.{answer}
use Rattle.plain_tree.specs.History.{call_at}
use Rattle.plain_tree.specs.declared.calls.Call.{Call}
use Rattle.plain_tree.specs.declared.calls.Fate.TheVariants as fates
use Rattle.plain_tree.specs.declared.calls.Placed.{Placed}
use Rattle.session_script.specs.declared.logs.Event.{Event}
use Rattle.session_script.specs.declared.logs.Reply.{Reply}
use Rattle.session_script.specs.declared.logs.Reply.TheVariants as replies
use Rattle.head_queue.specs.EventLaws.Trail.{IsTrail, of_call, owned_by}
use Rattle.space_laws.specs.Space.{is_over}
use Rattle.space_laws.specs.Standing.{Given, ask_of, rules, standing}
use Rattle.promises.specs.ServingPromise.Replies.{IsFaultOf, facts_at, may_wait}
use Rattle.promises.specs.ServingPromise.Served.{Drive, IsTrue, View, given}
use Rattle.promises.specs.ServingPromise.Steps.{DrainsOnce, Turns}
use Rattle.promises.specs.ServingPromise.Submits.{Submits, fate_for}
use Rattle.promises.specs.declared.serving_promise.answers.Drained.{Drained}
use Rattle.promises.specs.declared.serving_promise.answers.Drained.TheVariants as drained
use Rattle.promises.specs.declared.serving_promise.answers.Submitted.{Submitted}
use Rattle.promises.specs.declared.serving_promise.answers.Submitted.TheVariants as submitted
use Rattle.promises.specs.declared.serving_promise.answers.Turn.{Turn}
use Rattle.promises.specs.ReplyLaws.Sides.{PlacesTruly, VoidsTruly, left_by, on_here, standing_here}

-- a read or a sync that is done and within its limit
pub record CanWait (g : Given) (on : Option ℕ) (history : List Placed) (k : ℕ) (p : Placed) : Type 0 where
  pub fate : p.fate ≡ fates.Done
  pub call : Call
  pub is_call : call_at g.calls p ≡ Some call
  pub may : may_wait call ≡ true
  pub within : (facts_at g on history [] k p call).over ≡ false

-- each place whose reply isn't there yet can wait
abbrev pub AreWithin : Given → Option ℕ → List Placed → List (Option Reply) → Type 0
AreWithin g on history kept =
    (k : ℕ) (p : Placed) → slice_get history k ≡ Some p → slice_get kept k ≡ Some None → CanWait g on history k p

-- a volume that is true, and each reply of it that is still to come can come
pub record StaysTrue {D : Type 0} (first : Drive) (v : View D) : Type 0 where
  pub truth : IsTrue first v
  pub waits : AreWithin (given v first) v.on v.history v.replies

-- a call that waits is within its limit where it is placed
pub record WaitsTruly {D : Type 0} (first : Drive) (old new : View D) (who nth : ℕ) : Type 0 where
  pub places : PlacesTruly first old new who nth fates.Done None
  pub within : is_over (rules (given old first)) (on_here first old) (standing_here first old).space
      (ask_of (given old first) (standing_here first old) places.call places.at) ≡ false

abbrev pub SubmitsWithin : {D : Type 0} → Drive → View D → View D → ℕ → ℕ → Submitted → Type 0
SubmitsWithin first old new who nth (submitted.Ready reply) =
    PlacesTruly first old new who nth (fate_for reply) (Some reply)
SubmitsWithin first old new who nth (submitted.Wait ticket) = WaitsTruly first old new who nth
SubmitsWithin first old new who nth submitted.Drain = new.ops ≡ old.ops

-- what the tree answers at a place, or a fault that the place owns
abbrev pub IsAnswerAt : Given → Option ℕ → List Placed → List Event → ℕ → Call → Reply → Type 0
IsAnswerAt g on history events k call reply =
    (reply ≡ replies.Answer (answer (standing g on history k).tree call))
    ⊎ IsFaultOf (owned_by (of_call k) events) reply

-- each reply that came is that of the tree at its place, or a fault that its place owns
pub record AnswersTruly {D : Type 0} (first : Drive) (old new : View D) : Type 0 where
  pub came : (k : ℕ) (p : Placed) (call : Call) (reply : Reply) → slice_get old.history k ≡ Some p
      → call_at (given old first).calls p ≡ Some call → slice_get old.replies k ≡ Some None
      → slice_get new.replies k ≡ Some (Some reply)
      → IsAnswerAt (given old first) old.on old.history new.events k call reply
  pub added : List Event
  pub events : new.events ≡ old.events ++ added
  pub ops : new.ops ≡ left_by added old.ops

abbrev pub DrainsWithin : {D : Type 0} → Drive → View D → View D → ℕ → Drained → Type 0
DrainsWithin first old new who (drained.Fault counts) = VoidsTruly first old new who counts
DrainsWithin first old new who drained.Room = AnswersTruly first old new
DrainsWithin first old new who drained.More = AnswersTruly first old new

-- ---- the laws of calls once more, over any device that is seen as a drive

abbrev pub SubmissionsKeepTrue : {D : Type 0} → (D → Drive) → Type 0
SubmissionsKeepTrue {D} seen = (first now : D) (old new : View D) (who nth : ℕ) (answer : Submitted)
    → StaysTrue (seen first) old → Submits (seen first) (seen now) old new who nth answer
    → SubmitsWithin (seen first) old new who nth answer → StaysTrue (seen first) new

abbrev pub TurnsKeepTrue : {D : Type 0} → (D → Drive) → Type 0
TurnsKeepTrue {D} seen = (most : ℕ) (first before now : D) (old new : View D) (who ticket : ℕ) (turned : Turn)
    → StaysTrue (seen first) old → Turns most (seen before) (seen now) old new who ticket turned
    → IsTrail new.events → AnswersTruly (seen first) old new → StaysTrue (seen first) new

abbrev pub DrainTurnsKeepTrue : {D : Type 0} → (D → Drive) → Type 0
DrainTurnsKeepTrue {D} seen = (most : ℕ) (first before now : D) (old new : View D) (who : ℕ) (ended : Drained)
    → StaysTrue (seen first) old → DrainsOnce most (seen before) (seen now) old new who ended → IsTrail new.events
    → DrainsWithin (seen first) old new who ended → StaysTrue (seen first) new

-- a volume that stays true is true, and one of which nothing was asked yet stays so
pub record StayingGives {D : Type 0} (seen : D → Drive) : Type 0 where
  pub gives : (first : D) (v : View D) → StaysTrue (seen first) v → IsTrue (seen first) v
  pub begins : (first : D) (v : View D) → v.history ≡ [] → IsTrue (seen first) v → StaysTrue (seen first) v
