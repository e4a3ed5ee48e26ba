-- What a call of a volume has to show where it is made, for the volume's replies and ops to stay true.
use Rattle.std.specs.Prelude.{◌≡◌, ◌++◌, ℕ, Bool, true, false, cond, List, [], ◌∷◌, drop, filter_map, map, length}
use Rattle.std.specs.Prelude.{Contains, Option, Some, None, IfSome, slice_get}
use Rattle.std.specs.List.{list_any}
use Rattle.tape_types.specs.declared.moments.Moment.{Moment}
use Rattle.tape_types.specs.declared.cartridges.Twin.{Twin}
use Rattle.plain_tree.specs.Calls.{answer}
use Rattle.plain_tree.specs.History.{call_at}
use Rattle.plain_tree.specs.declared.calls.Answer.{Answer}
use Rattle.plain_tree.specs.declared.calls.Call.{Call}
use Rattle.plain_tree.specs.declared.calls.Fate.{Fate}
use Rattle.plain_tree.specs.declared.calls.Fate.TheVariants as fates
use Rattle.plain_tree.specs.declared.calls.Placed.{Placed}
use Rattle.session_script.specs.declared.logs.Event.{Event}
use Rattle.session_script.specs.declared.logs.Event.TheVariants as events
use Rattle.session_script.specs.declared.logs.Reply.{Reply}
use Rattle.session_script.specs.declared.logs.Reply.TheVariants as replies
use Rattle.head_queue.specs.EventLaws.Trail.{of_session, owned_by}
use Rattle.tape_layout.specs.declared.ops.Op.{Op}
use Rattle.tape_layout.specs.Ops.{place_of}
use Rattle.space_laws.specs.Space.{is_over, limit_of, need_of, ops_of}
use Rattle.space_laws.specs.Standing.{Given, Standing, ask_of, is_on, rules, standing}
use Rattle.promises.specs.ServingPromise.Marks.{places_of}
use Rattle.promises.specs.ServingPromise.Replies.{IsReply, facts_at, is_write}
use Rattle.promises.specs.ServingPromise.Served.{Drive, View, given, queued}
use Rattle.promises.specs.ServingPromise.Submits.{call_of, fate_for}
use Rattle.promises.specs.declared.serving_promise.answers.Drained.{Drained}
use Rattle.promises.specs.declared.serving_promise.answers.Drained.TheVariants as drained
use Rattle.promises.specs.declared.serving_promise.answers.Submitted.{Submitted}
use Rattle.promises.specs.declared.serving_promise.answers.Submitted.TheVariants as submitted

-- ---- where the next call is placed

-- what stands at the end of the history
abbrev pub standing_here : {D : Type 0} → Drive → View D → Standing
standing_here first v = standing (given v first) v.on v.history (length v.history)

-- files may go to the index partition there
abbrev pub on_here : {D : Type 0} → Drive → View D → Bool
on_here first v = is_on (given v first).mounted v.on (length v.history)

-- ---- a reply that is there at once

-- the call is within its limit, and is answered as the tree answers it
pub record IsAnsweredHere (g : Given) (on : Bool) (st : Standing) (call : Call) (at : Moment)
    (told : Answer) : Type 0 where
  pub within : is_over (rules g) on st.space (ask_of g st call at) ≡ false
  pub answered : told ≡ answer st.tree call

-- the call is over its limit, and these are what it needs and what there is
pub record IsFullHere (g : Given) (on : Bool) (st : Standing) (call : Call) (at : Moment)
    (need limit : ℕ) : Type 0 where
  pub over : is_over (rules g) on st.space (ask_of g st call at) ≡ true
  pub need_is : need ≡ need_of (rules g) on st.space (ask_of g st call at)
  pub limit_is : limit ≡ limit_of (rules g) on st.space (ask_of g st call at)

-- want of memory is free, and no head step has failed for a call that was only now placed
abbrev pub IsReadyHere : Given → Bool → Standing → Call → Moment → Reply → Type 0
IsReadyHere g on st call at (replies.Answer told) = IsAnsweredHere g on st call at told
IsReadyHere g on st call at (replies.Full need limit) = IsFullHere g on st call at need limit
IsReadyHere g on st call at replies.NoMemory = Unit {0}
IsReadyHere g on st call at (replies.Fault counts) = ⊥

-- ---- the ops of a placement

-- what a placement of this fate admits: a void one nothing
abbrev pub ops_here : Given → Bool → Standing → Fate → Option Call → Moment → List Op
ops_here g on st fates.Void call at = []
ops_here g on st fates.Done None at = []
ops_here g on st fates.Done (Some call) at = ops_of (rules g) on st.space (ask_of g st call at)

-- the event says that an op was done
abbrev pub does_op : Event → Bool
does_op (events.Worked place None) = true
does_op _ = false

-- the ops that stand without the first, where one was done
abbrev pub left_by : List Event → List Op → List Op
left_by added standing_ops = cond (list_any does_op added) (drop 1 standing_ops) standing_ops

-- ---- submit

-- A placement at the end of the history, with its reply where it is there. The ops that are queued are those that it
-- admits, and stand behind the others.
pub record PlacesTruly {D : Type 0} (first : Drive) (old new : View D) (who nth : ℕ) (fate : Fate)
    (reply : Option Reply) : Type 0 where
  pub call : Call
  pub is_call : call_of old who nth ≡ Some call
  pub at : Moment
  pub history : new.history ≡ old.history ++ record { who = who; nth = nth; at = at; fate = fate } ∷ []
  pub ready : IfSome reply (λ r. IsReadyHere (given old first) (on_here first old) (standing_here first old) call at r)
  pub added : List Event
  pub events : new.events ≡ old.events ++ added
  pub queues : filter_map queued added
      ≡ map place_of (ops_here (given old first) (on_here first old) (standing_here first old) fate (Some call) at)
  pub ops : new.ops
      ≡ old.ops ++ ops_here (given old first) (on_here first old) (standing_here first old) fate (Some call) at

abbrev pub SubmitsTruly : {D : Type 0} → Drive → View D → View D → ℕ → ℕ → Submitted → Type 0
SubmitsTruly first old new who nth (submitted.Ready reply) =
    PlacesTruly first old new who nth (fate_for reply) (Some reply)
SubmitsTruly first old new who nth (submitted.Wait ticket) = PlacesTruly first old new who nth fates.Done None
SubmitsTruly first old new who nth submitted.Drain = new.ops ≡ old.ops

-- ---- turn and drain_turn

-- Each reply that came is one that may come at its place, by the events that are there now. An op that was done stands
-- no more.
pub record StepsTruly {D : Type 0} (first : Drive) (old new : View D) : Type 0 where
  pub came : (k : ℕ) (p : Placed) (reply : Reply) → slice_get old.history k ≡ Some p
      → slice_get old.replies k ≡ Some None → slice_get new.replies k ≡ Some (Some reply)
      → (call : Call) × (call_at (given old first).calls p ≡ Some call)
      × IsReply p.fate (facts_at (given old first) old.on old.history new.events k p call) call reply
  pub added : List Event
  pub events : new.events ≡ old.events ++ added
  pub ops : new.ops ≡ left_by added old.ops

-- a session that drained has its write placed void, with a fault that it owns
pub record VoidsTruly {D : Type 0} (first : Drive) (old new : View D) (who : ℕ) (counts : Twin) : Type 0 where
  pub call : Call
  pub is_call : call_of old who (length (places_of who old.marks)) ≡ Some call
  pub writes : is_write call ≡ true
  pub owned : Contains (owned_by (of_session who) new.events) counts
  pub added : List Event
  pub events : new.events ≡ old.events ++ added
  pub ops : new.ops ≡ left_by added old.ops

abbrev pub DrainsTruly : {D : Type 0} → Drive → View D → View D → ℕ → Drained → Type 0
DrainsTruly first old new who (drained.Fault counts) = VoidsTruly first old new who counts
DrainsTruly first old new who drained.Room = StepsTruly first old new
DrainsTruly first old new who drained.More = StepsTruly first old new
