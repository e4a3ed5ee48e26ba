-- A submission does no op.
use Rattle.std.specs.Prelude.{◌≡◌, ◌||◌, ℕ, false, List, [], ◌∷◌, ◌++◌, map, Option, Some, None}
use Rattle.std.specs.List.{list_any}
use Rattle.std.proofs.Common.{refl, ap, ◌∙◌}
use Rattle.std.proofs.lemmas.List.Folds.{list_any-append}
use Rattle.tape_types.specs.declared.cartridges.Place.{Place}
use Rattle.plain_tree.specs.declared.calls.Call.{Call}
use Rattle.plain_tree.specs.declared.calls.Call.TheVariants.{Write, Read, Sync}
use Rattle.plain_tree.specs.declared.calls.Fate.{Fate}
use Rattle.plain_tree.specs.declared.calls.Fate.TheVariants as fates
use Rattle.session_script.specs.declared.logs.Event.{Event}
use Rattle.session_script.specs.declared.logs.Event.TheVariants as events
use Rattle.head_queue.specs.EventLaws.Trail.{after_all}
use Rattle.head_queue.specs.EventLaws.Waiting.{Op, ops}
use Rattle.promises.specs.ServingPromise.Submits.{AreOfSubmit, IsOfDone, IsOfFate, fate_for, queues_at, synced_at}
use Rattle.promises.specs.declared.serving_promise.answers.Submitted.{Submitted}
use Rattle.promises.specs.declared.serving_promise.answers.Submitted.TheVariants as submitted
use Rattle.promises.specs.ReplyLaws.Sides.{does_op}

queues_do_none : (places : List Place) → list_any does_op (queues_at places) ≡ false
queues_do_none [] = refl
queues_do_none (place ∷ places) = queues_do_none places

wants_do_none : (here : ℕ) (places : List Place) → list_any does_op (map (λ place. events.Wants here place) places) ≡ false
wants_do_none here [] = refl
wants_do_none here (place ∷ places) = wants_do_none here places

synced_does_none : (here : ℕ) (standing : List Op) → list_any does_op (synced_at here standing) ≡ false
synced_does_none here [] = refl
synced_does_none here (op ∷ later) = refl

nothing : (added : List Event) → added ≡ [] → list_any does_op added ≡ false
nothing added e = ap (list_any does_op) e

of_done : (here : ℕ) (before : List Event) (call : Option Call) (added : List Event) → IsOfDone here before call added → list_any does_op added ≡ false
of_done here before None added is = nothing added is
of_done here before (Some Sync) added is =
    ap (list_any does_op) is.1
    ∙ list_any-append does_op (queues_at is.0) (events.Syncs here ∷ synced_at here (ops (after_all (before ++ queues_at is.0))))
    ∙ ap (λ b. b || list_any does_op (synced_at here (ops (after_all (before ++ queues_at is.0))))) (queues_do_none is.0)
    ∙ synced_does_none here (ops (after_all (before ++ queues_at is.0)))
of_done here before (Some (Read path offset count)) added is = ap (list_any does_op) is.1 ∙ wants_do_none here is.0
of_done here before (Some (Write path offset bytes)) added is = ap (list_any does_op) is.1 ∙ queues_do_none is.0
of_done here before (Some _) added is = nothing added is

of_fate : (fate : Fate) (here : ℕ) (before : List Event) (call : Option Call) (added : List Event) → IsOfFate fate here before call added → list_any does_op added ≡ false
of_fate fates.Done here before call added is = of_done here before call added is
of_fate fates.Void here before call added is = nothing added is

-- a submission does no op
pub submissions_do_none : (who here : ℕ) (before : List Event) (call : Option Call) (answer : Submitted) (added : List Event) → AreOfSubmit who here before call answer added → list_any does_op added ≡ false
submissions_do_none who here before call (submitted.Ready reply) added is = of_fate (fate_for reply) here before call added is
submissions_do_none who here before call (submitted.Wait ticket) added is = of_done here before call added is.1
submissions_do_none who here before call submitted.Drain added is = ap (list_any does_op) is
