-- A submission makes no command of the drive, and places one call at most.
use Rattle.std.specs.Prelude.{◌≡◌, ◌≤◌, ℕ, false, List, [], ◌∷◌, ◌++◌, All, length, map, Option, Some}
use Rattle.std.proofs.Common.{refl, sym, subst, arith, append-nil}
use Rattle.std.proofs.lemmas.List.Elements.{All-append, All-cons, All-nil}
use Rattle.tape_types.specs.declared.cartridges.Place.{Place}
use Rattle.tape_drive.specs.declared.drive.Drive.{Ghosts}
use Rattle.plain_tree.specs.declared.calls.Call.{Call}
use Rattle.plain_tree.specs.declared.calls.Call.TheVariants as calls
use Rattle.plain_tree.specs.declared.calls.Fate.{Fate}
use Rattle.plain_tree.specs.declared.calls.Fate.TheVariants as fates
use Rattle.plain_tree.specs.declared.calls.Placed.{Placed}
use Rattle.session_script.specs.declared.logs.Event.{Event}
use Rattle.session_script.specs.declared.logs.Event.TheVariants as events
use Rattle.session_script.specs.declared.logs.Reply.{Reply}
use Rattle.head_queue.specs.EventLaws.Trail.{after_all}
use Rattle.head_queue.specs.EventLaws.Waiting.{Op, ops}
use Rattle.promises.specs.ServingPromise.Served.{Drive, View}
use Rattle.promises.specs.ServingPromise.Steps.{is_step}
use Rattle.promises.specs.ServingPromise.Submits.{AreOfSubmit, IsOfDone, IsOfFate, Placing, Submits, call_of, fate_for}
use Rattle.promises.specs.ServingPromise.Submits.{queues_at, synced_at}
use Rattle.promises.specs.declared.serving_promise.answers.Submitted.{Submitted}
use Rattle.promises.specs.declared.serving_promise.answers.Submitted.TheVariants as submitted
use Rattle.promises.specs.OrderLaws.Kept.{seen}
use Rattle.run_laws.specs.LogLaws.Acts as acts
use Rattle.run_laws.specs.LogLaws.Acts.{Moves}

-- ---- none of the events is a step of the head

abbrev AreStill : List Event → Type 0
AreStill added = All (λ e. is_step e ≡ false) added

no_events : AreStill []
no_events = All-nil (λ (e : Event). is_step e ≡ false)

one_event : (e : Event) → is_step e ≡ false → AreStill (e ∷ [])
one_event e is = All-cons (λ (e : Event). is_step e ≡ false) e [] is no_events

queues_are : (places : List Place) → AreStill (queues_at places)
queues_are [] = no_events
queues_are (p ∷ places) =
    All-cons (λ (e : Event). is_step e ≡ false) (events.Queues p) (queues_at places) refl (queues_are places)

wants_are : (here : ℕ) (places : List Place) → AreStill (map (λ place. events.Wants here place) places)
wants_are here [] = no_events
wants_are here (p ∷ places) =
    All-cons (λ (e : Event). is_step e ≡ false) (events.Wants here p) (map (λ place. events.Wants here place) places)
    refl (wants_are here places)

answer_is : (here : ℕ) (standing : List Op) → AreStill (synced_at here standing)
answer_is here [] = one_event (events.Synced here) refl
answer_is here (op ∷ later) = no_events

sync_is : (here : ℕ) (before : List Event) (places : List Place)
    → AreStill (queues_at places ++ events.Syncs here ∷ synced_at here (ops (after_all (before ++ queues_at places))))
sync_is here before places =
    let answer = synced_at here (ops (after_all (before ++ queues_at places))) in
    All-append (λ (e : Event). is_step e ≡ false) (queues_at places) (events.Syncs here ∷ answer) (queues_are places)
    (All-cons (λ (e : Event). is_step e ≡ false) (events.Syncs here) answer refl
    (answer_is here (ops (after_all (before ++ queues_at places)))))

same_still : {xs ys : List Event} → ys ≡ xs → AreStill xs → AreStill ys
same_still is still = subst AreStill (sym is) still

done_is : (here : ℕ) (before : List Event) (call : Option Call) (added : List Event)
    → IsOfDone here before call added → AreStill added
done_is here before (Some calls.Sync) added is = same_still is.1 (sync_is here before is.0)
done_is here before (Some (calls.Read path offset count)) added is = same_still is.1 (wants_are here is.0)
done_is here before (Some (calls.Write path offset bytes)) added is = same_still is.1 (queues_are is.0)
done_is here before _ added is = same_still is no_events

fate_is : (fate : Fate) (here : ℕ) (before : List Event) (call : Option Call) (added : List Event)
    → IsOfFate fate here before call added → AreStill added
fate_is fates.Done here before call added is = done_is here before call added is
fate_is fates.Void here before call added is = same_still is no_events

submission_is_still : (who here : ℕ) (before : List Event) (call : Option Call) (answer : Submitted)
    (added : List Event) → AreOfSubmit who here before call answer added → AreStill added
submission_is_still who here before call (submitted.Ready reply) added is =
    fate_is (fate_for reply) here before call added is
submission_is_still who here before call (submitted.Wait ticket) added is = done_is here before call added is.1
submission_is_still who here before call submitted.Drain added is = same_still is (one_event (events.Drains who) refl)

-- ---- one placement at most

record PlacesOne (old new : List Placed) : Type 0 where
  placed : List Placed
  one : length placed ≤ 1
  is : new ≡ old ++ placed

places_one : {D : Type 0} (old new : View D) (who nth : ℕ) (answer : Submitted) → Placing old new who nth answer
    → PlacesOne old.history new.history
places_one old new who nth (submitted.Ready reply) p =
    record { placed = p.placed ∷ []; one = omega arith; is = p.history }
places_one old new who nth (submitted.Wait ticket) p =
    record { placed = p.1.placed ∷ []; one = omega arith; is = p.1.history }
places_one old new who nth submitted.Drain p =
    record { placed = []; one = omega arith; is = subst (λ h. new.history ≡ h) (sym (append-nil old.history)) p.history }

-- A submission moves the volume on.
pub submission_moves : {D : Type 0} (drive : Ghosts D) (old new : View D) (who nth : ℕ) (answer : Submitted)
    → Submits (seen drive old.fixed.first) (seen drive new.drive) old new who nth answer → Moves drive old new
submission_moves drive old new who nth answer s =
    let places = places_one old new who nth answer s.placing in
    record {
      fixed = s.fixed;
      placed = places.placed;
      one = places.one;
      history = places.is;
      added = s.added;
      adds = s.adds;
      acts = acts.none s.added
          (submission_is_still who (length old.history) old.events (call_of old who nth) answer s.added s.of_it)
          s.drive;
    }
