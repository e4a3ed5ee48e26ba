-- What each call of a volume shows, beside what it adds, so that the order is kept.
use Rattle.std.specs.Prelude.{◌≡◌, ◌++◌, ℕ, cond, true, false, List, [], All, fold, filter_map, length, map, Option}
use Rattle.std.specs.Prelude.{Some, None, IfSome, slice_get}
use Rattle.std.specs.List.{list_any, scan}
use Rattle.std.specs.Option.{option_to_list}
use Rattle.tape_types.specs.Counts.{IsRise}
use Rattle.tape_types.specs.declared.cartridges.Twin.{Twin}
use Rattle.session_script.specs.declared.logs.Event.{Event}
use Rattle.session_script.specs.declared.logs.Reply.{Reply}
use Rattle.head_queue.specs.EventLaws.Trail.{Owner, after, after_all, both, fault_of, is_of, is_trail_from, of_call, owner_of}
use Rattle.head_queue.specs.EventLaws.Waiting.{State, ops}
use Rattle.promises.specs.ServingPromise.Acks.{answers, is_synced}
use Rattle.promises.specs.ServingPromise.Faults.{told}
use Rattle.promises.specs.ServingPromise.Served.{Drive, View, headed, is_waiting}
use Rattle.promises.specs.ServingPromise.Steps.{rest_of}
use Rattle.promises.specs.declared.serving_promise.answers.Drained.{Drained}
use Rattle.promises.specs.declared.serving_promise.answers.Drained.TheVariants as drained
use Rattle.promises.specs.declared.serving_promise.answers.Submitted.{Submitted}
use Rattle.promises.specs.declared.serving_promise.answers.Submitted.TheVariants as submitted

-- the clock gives the one moment next, where it has one
abbrev pub HasOneMoment : {D : Type 0} → View D → Type 0
HasOneMoment v = IfSome v.fixed.moment (λ m. v.next ≡ Some m)

-- the events may come after those that were there, and the ops that stand then are these
pub record MayFollow {D : Type 0} (old new : View D) (added : List Event) : Type 0 where
  pub trail : is_trail_from (after_all old.events) added ≡ true
  pub standing : map headed new.ops ≡ ops (after_all new.events)

-- the faults among events that one owns, from a state on
abbrev pub owned_from : State → Owner → List Event → List Twin
owned_from st owner events = filter_map (λ e. cond (is_of owner e.0) (Some e.1) None)
    (filter_map (λ o. o) (scan after (λ st e. both (owner_of st e) (fault_of e)) st events))

-- A reply that came to a place that had none: nothing has to come for it any more; it is a fault exactly where the
-- events have one that the place owns, and says that a sync is synced exactly where the events answer it.
pub record IsReplied (st : State) (added : List Event) (k : ℕ) (reply : Reply) : Type 0 where
  pub waits : is_waiting (fold after st added) k ≡ false
  pub fault : option_to_list (told (Some reply)) ≡ owned_from st (of_call k) added
  pub synced : is_synced (Some reply) ≡ list_any (answers k) added

-- what stands there then: nothing as long as the head or a flush has to come for it
abbrev pub IsBrought : State → List Event → ℕ → Option Reply → Type 0
IsBrought st added k None = is_waiting (fold after st added) k ≡ true
IsBrought st added k (Some reply) = IsReplied st added k reply

-- ---- submit

-- A reply that is ready is no fault, says that a sync is synced exactly where the events answer it, and nothing has to
-- come for it any more. For a ticket the head or a flush has to come.
abbrev pub IsAnswered : State → List Event → ℕ → Submitted → Type 0
IsAnswered st added here (submitted.Ready reply) = (is_waiting st here ≡ false) × (told (Some reply) ≡ None)
    × (is_synced (Some reply) ≡ list_any (answers here) added)
IsAnswered st added here (submitted.Wait ticket) = is_waiting st here ≡ true
IsAnswered st added here submitted.Drain = Unit {0}

pub record SubmitsInOrder {D : Type 0} (old new : View D) (added : List Event) (answer : Submitted) : Type 0 where
  pub moment : HasOneMoment old
  pub follows : MayFollow old new added
  pub answered : IsAnswered (after_all new.events) added (length old.history) answer

-- ---- turns

-- each place that had no reply has what the events bring
abbrev pub AreReplied : {D : Type 0} → View D → View D → List Event → Type 0
AreReplied old new added = (k : ℕ) (reply : Option Reply) → slice_get old.replies k ≡ Some None
    → slice_get new.replies k ≡ Some reply → IsBrought (after_all old.events) added k reply

-- The two numbers of a fault that was met have risen, within what the drive counts. The drive tells no cartridge where
-- it told none.
pub record MovesOn (before now : Drive) (added : List Event) : Type 0 where
  pub rises : All (λ t. IsRise before.faults now.faults t.before t.after) (filter_map fault_of added)
  pub limits : now.limits ≡ before.limits
  pub untold : before.held ≡ None → now.held ≡ None

pub record TurnsInOrder {D : Type 0} (before now : Drive) (old new : View D) (added : List Event) : Type 0 where
  pub follows : MayFollow old new added
  pub replied : AreReplied old new added
  pub moves : MovesOn before now added

-- where the session is told of its fault nobody else is replied to, and that follows
abbrev pub AreRepliedElse : {D : Type 0} → View D → View D → List Event → Drained → Type 0
AreRepliedElse old new made (drained.Fault counts) = Unit {0}
AreRepliedElse old new made _ = AreReplied old new made

-- the clock is asked where the session's write is placed
abbrev pub AsksOneMoment : {D : Type 0} → View D → Drained → Type 0
AsksOneMoment old (drained.Fault counts) = HasOneMoment old
AsksOneMoment old _ = Unit {0}

pub record DrainsInOrder {D : Type 0} (before now : Drive) (old new : View D) (who : ℕ) (made : List Event)
    (answer : Drained) : Type 0 where
  pub moment : AsksOneMoment old answer
  pub follows : MayFollow old new (made ++ rest_of who answer)
  pub replied : AreRepliedElse old new made answer
  pub moves : MovesOn before now made
