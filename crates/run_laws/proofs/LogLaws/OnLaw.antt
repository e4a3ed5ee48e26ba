-- From where on files may go to the index partition, over each call.
use Rattle.std.specs.Prelude.{◌≡◌, ◌||◌, ℕ, Bool, true, false, cond, List, ◌∷◌, ◌++◌}
use Rattle.std.specs.Prelude.{map, filter_map, length, Option, Some, None}
use Rattle.std.specs.List.{list_any}
use Rattle.std.proofs.Common.{refl, sym, ap, ◌∙◌, subst, arith, take_all}
use Rattle.std.proofs.lemmas.List.{length-map}
use Rattle.std.proofs.lemmas.List.Folds.{list_any-append}
use Rattle.std.proofs.lemmas.Bool.{or_left}
use Rattle.plain_tree.specs.declared.calls.Placed.{Placed}
use Rattle.session_script.specs.declared.logs.Event.{Event}
use Rattle.head_queue.specs.EventLaws.Trail.{after, after_all}
use Rattle.head_queue.specs.EventLaws.Waiting.{start, waiting_op}
use Rattle.tape_layout.specs.Ops.{place_of}
use Rattle.space_laws.specs.Standing.{Given, admitted}
use Rattle.promises.specs.ServingPromise.Headline.{IsOn}
use Rattle.promises.specs.ServingPromise.Served.{Drive, View, given, given_of, queued}
use Rattle.promises.specs.ServingPromise.Steps.{AreOfStep, does_dp_flush, no_step, on_after, one_step}
use Rattle.promises.specs.ReplyLaws.Sides.{does_op}
use Rattle.promises.proofs.ReplyLaws.Asked.{GoesTo}
use Rattle.promises.proofs.ReplyLaws.Places.{admitted_alike, agree_before}
use Rattle.run_laws.proofs.LogLaws.Flushes.{answers_do_none, any_flush, flush_append, none_flush, none_flush_of}
use Rattle.run_laws.proofs.LogLaws.Flushes.{until_now, until_stays}

-- ---- a history that goes on

module _ {history later : List Placed} {Next : ℕ → Placed → Type 0} (g : Given) (before : List Event)
    (goes : GoesTo history later Next) where
  -- a place that is told stays, whatever comes
  on_told : (added : List Event) (first : ℕ) → IsOn g before history (Some first)
      → IsOn g (before ++ added) later (Some first)
  on_told added first is = (
    flush_append start before added ∙ or_left (any_flush start before) (any_flush (after_all before) added) is.0,
    omega (arith, is.1, goes.longer),
    ap (λ h. length (admitted g (Some first) h)) (goes.same first is.1) ∙ is.2
        ∙ sym (until_stays start before added is.0),
  )

  on_untold : (added : List Event) → any_flush (after_all before) added ≡ false → IsOn g before history None
      → IsOn g (before ++ added) later None
  on_untold added none is =
      flush_append start before added ∙ ap (λ b. b || any_flush (after_all before) added) is ∙ none

  -- events that do no op
  pub on_stays : (added : List Event) (on : Option ℕ) → list_any does_op added ≡ false → IsOn g before history on
      → IsOn g (before ++ added) later on
  on_stays added None none is = on_untold added (none_flush (after_all before) added none) is
  on_stays added (Some first) none is = on_told added first is

  -- the first flush is done: all that the history admits was queued before it
  on_begins : (e : Event) (more : List Event) → filter_map queued before ≡ map place_of (admitted g None history)
      → does_dp_flush (waiting_op (after_all before)) e ≡ true → IsOn g before history None
      → IsOn g (before ++ e ∷ more) later (Some (length history))
  on_begins e more queues does is = (
    flush_append start before (e ∷ more)
        ∙ ap (λ b. b || any_flush (after_all before) (e ∷ more)) is
        ∙ or_left (does_dp_flush (waiting_op (after_all before)) e) (any_flush (after (after_all before) e) more) does,
    goes.longer,
    ap (λ h. length (admitted g (Some (length history)) h))
        (goes.same (length history) (omega arith) ∙ take_all (length history) history (omega arith))
        ∙ ap length (admitted_alike g (Some (length history)) None history (agree_before g.mounted (length history)))
        ∙ sym (length-map (admitted g None history) place_of) ∙ ap length (sym queues)
        ∙ sym (until_now start before e more is does),
  )

  begins_or_not : (e : Event) (answers rest : List Event) (is : Bool)
      → does_dp_flush (waiting_op (after_all before)) e ≡ is → list_any does_op (answers ++ rest) ≡ false
      → filter_map queued before ≡ map place_of (admitted g None history) → IsOn g before history None
      → IsOn g (before ++ e ∷ (answers ++ rest)) later (cond is (Some (length history)) None)
  begins_or_not e answers rest true does none queues is = on_begins e (answers ++ rest) queues does is
  begins_or_not e answers rest false does none queues is =
      on_untold (e ∷ (answers ++ rest))
      (ap (λ b. b || any_flush (after (after_all before) e) (answers ++ rest)) does
      ∙ none_flush (after (after_all before) e) (answers ++ rest) none) is

  -- a step of the head, and events behind it that do no op
  step_untold : (made rest : List Event) → AreOfStep made → list_any does_op rest ≡ false
      → filter_map queued before ≡ map place_of (admitted g None history) → IsOn g before history None
      → IsOn g (before ++ (made ++ rest)) later
      (cond (list_any (does_dp_flush (waiting_op (after_all before))) made) (Some (length history)) None)
  step_untold _ rest no_step none queues is = on_untold rest (none_flush (after_all before) rest none) is
  step_untold _ rest (one_step e answers step all) none queues is =
      let waits = waiting_op (after_all before) in
      let quiet = answers_do_none answers all in
      let only_first : list_any (does_dp_flush waits) (e ∷ answers) ≡ does_dp_flush waits e =
      or_none (does_dp_flush waits e) (list_any (does_dp_flush waits) answers) (none_flush_of waits answers quiet) in
      subst (λ b. IsOn g (before ++ e ∷ (answers ++ rest)) later (cond b (Some (length history)) None))
      (sym only_first)
      (begins_or_not e answers rest (does_dp_flush waits e) refl
      (list_any-append does_op answers rest ∙ ap (λ b. b || list_any does_op rest) quiet ∙ none) queues is)
    where
      or_none : (a b : Bool) → b ≡ false → (a || b) ≡ a
      or_none true b h = refl
      or_none false b h = h

-- ---- volumes

on_some : {D : Type 0} (old : View D) (added : List Event) (first : ℕ) → old.on ≡ Some first
    → on_after old added ≡ Some first
on_some old added first is = rw is refl

on_none : {D : Type 0} (old : View D) (added : List Event) → old.on ≡ None
    → on_after old added
    ≡ cond (list_any (does_dp_flush (waiting_op (after_all old.events))) added) (Some (length old.history)) None
on_none old added is = rw is refl

step_by : {D : Type 0} {later : List Placed} {Next : ℕ → Placed → Type 0} (g : Given) (old : View D)
    (made rest : List Event) → GoesTo old.history later Next → AreOfStep made → list_any does_op rest ≡ false
    → (on : Option ℕ) → old.on ≡ on → filter_map queued old.events ≡ map place_of (admitted g on old.history)
    → IsOn g old.events old.history on → IsOn g (old.events ++ (made ++ rest)) later (on_after old made)
step_by {later = later} g old made rest goes shape none (Some first) on_is queues is =
    subst (λ o. IsOn g (old.events ++ (made ++ rest)) later o) (sym (on_some old made first on_is))
    (on_told g old.events goes (made ++ rest) first is)
step_by {later = later} g old made rest goes shape none None on_is queues is =
    subst (λ o. IsOn g (old.events ++ (made ++ rest)) later o) (sym (on_none old made on_is))
    (step_untold g old.events goes made rest shape none queues is)

-- after a step it is still told from where on files may go to the index partition
pub on_steps : {D : Type 0} {later : List Placed} {Next : ℕ → Placed → Type 0} (g : Given) (old : View D)
    (made rest : List Event) → GoesTo old.history later Next → AreOfStep made → list_any does_op rest ≡ false
    → filter_map queued old.events ≡ map place_of (admitted g old.on old.history)
    → IsOn g old.events old.history old.on → IsOn g (old.events ++ (made ++ rest)) later (on_after old made)
on_steps g old made rest goes shape none queues is = step_by g old made rest goes shape none old.on refl queues is

-- what is told of history, events and that place makes it so of a volume
pub on_whole : {D : Type 0} (first : Drive) (old new : View D) (on : Option ℕ) (history : List Placed)
    (trail : List Event) → new.fixed ≡ old.fixed → new.on ≡ on → new.history ≡ history → new.events ≡ trail
    → IsOn (given old first) trail history on → IsOn (given new first) new.events new.history new.on
on_whole first old new on history trail is_fixed is_on is_history is_events is =
    let same = ap (λ f. given_of f.script f.tree f.mounted first) is_fixed in
    let a = subst (λ g. IsOn g trail history on) (sym same) is in
    let b = subst (λ o. IsOn (given new first) trail history o) (sym is_on) a in
    let c = subst (λ h. IsOn (given new first) trail h new.on) (sym is_history) b in
    subst (λ es. IsOn (given new first) es new.history new.on) (sym is_events) c
