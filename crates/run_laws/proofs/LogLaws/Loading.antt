-- Each turn lowers what is left to do by its step, and a submission adds one at most for each of its events.
use Rattle.std.specs.Prelude.{◌≡◌, ◌≤◌, ◌+◌, ◌-◌, not, ℕ, Bool, true, false, List, [], ◌∷◌, ◌++◌, All, filter, filter_map, fold, length}
use Rattle.std.proofs.Common.{refl, sym, ap, ◌∙◌, subst, arith, length-append}
use Rattle.std.proofs.lemmas.List.Elements.{All-append, All-cons, All-head, All-nil, All-tail, filter_map-append}
use Rattle.std.proofs.lemmas.List.Filters.{length-filter_both}
use Rattle.std.proofs.lemmas.List.Sums.{fold-append}
use Rattle.session_script.specs.declared.logs.Event.{Event}
use Rattle.session_script.specs.declared.logs.Event.TheVariants as events
use Rattle.head_queue.specs.EventLaws.Load.{is_submitted, load}
use Rattle.head_queue.specs.EventLaws.Trail.{IsTrail, after, after_all, is_answer, step_to, steps}
use Rattle.head_queue.specs.EventLaws.Waiting.{start}
use Rattle.head_queue.proofs.EventLaws.LoadLaw.{trails_change_the_load}
use Rattle.promises.specs.ServingPromise.Served.{Drive, View}
use Rattle.promises.specs.ServingPromise.Steps.{AreOfStep, DrainsOnce, Turns, is_step, no_step, one_step, rest_of}
use Rattle.promises.specs.ServingPromise.Submits.{Adds, Submits}
use Rattle.promises.specs.declared.serving_promise.answers.Drained.{Drained}
use Rattle.promises.specs.declared.serving_promise.answers.Drained.TheVariants as drained
use Rattle.promises.specs.declared.serving_promise.answers.Submitted.{Submitted}
use Rattle.promises.specs.declared.serving_promise.answers.Turn.{Turn}
use Rattle.promises.specs.declared.serving_promise.answers.Turn.TheVariants as turns
use Rattle.promises.proofs.ReplyLaws.Happened.{trail_behind}
use Rattle.run_laws.specs.LogLaws.Loads.{load_of, taken_by, taken_by_drain}

-- ---- events that no submission makes

abbrev IsOwn : Event → Type 0
IsOwn e = is_submitted e ≡ false

step_is : (e : Event) → is_step e ≡ true → IsOwn e
step_is (events.Served ticket place fault) is = refl
step_is (events.Worked place fault) is = refl
step_is (events.Wants ticket place) is = absurd (cc is)
step_is (events.Queues place) is = absurd (cc is)
step_is (events.Syncs ticket) is = absurd (cc is)
step_is (events.Synced ticket) is = absurd (cc is)
step_is (events.Drains who) is = absurd (cc is)
step_is (events.Rests who) is = absurd (cc is)

answer_is : (e : Event) → is_answer e ≡ true → IsOwn e
answer_is (events.Synced ticket) is = refl
answer_is (events.Served ticket place fault) is = absurd (cc is)
answer_is (events.Worked place fault) is = absurd (cc is)
answer_is (events.Wants ticket place) is = absurd (cc is)
answer_is (events.Queues place) is = absurd (cc is)
answer_is (events.Syncs ticket) is = absurd (cc is)
answer_is (events.Drains who) is = absurd (cc is)
answer_is (events.Rests who) is = absurd (cc is)

answers_are : (es : List Event) → All (λ e. is_answer e ≡ true) es → All (λ e. is_submitted e ≡ false) es
answers_are [] all = All-nil (λ (e : Event). is_submitted e ≡ false)
answers_are (e ∷ es) all =
    All-cons (λ (e : Event). is_submitted e ≡ false) e es
    (answer_is e (All-head (λ (e : Event). is_answer e ≡ true) e es all))
    (answers_are es (All-tail (λ (e : Event). is_answer e ≡ true) e es all))

made_are : (made : List Event) → AreOfStep made → All (λ e. is_submitted e ≡ false) made
made_are _ no_step = All-nil (λ (e : Event). is_submitted e ≡ false)
made_are _ (one_step e answers is all) =
    All-cons (λ (e : Event). is_submitted e ≡ false) e answers (step_is e is) (answers_are answers all)

none_submitted : (es : List Event) → All (λ e. is_submitted e ≡ false) es → length (filter is_submitted es) ≡ 0
none_submitted [] all = refl
none_submitted (e ∷ es) all =
    by e (All-head (λ (e : Event). is_submitted e ≡ false) e es all)
    (none_submitted es (All-tail (λ (e : Event). is_submitted e ≡ false) e es all))
  where
    by : (e : Event) → IsOwn e → length (filter is_submitted es) ≡ 0 → length (filter is_submitted (e ∷ es)) ≡ 0
    by (events.Served ticket place fault) own rest = rest
    by (events.Worked place fault) own rest = rest
    by (events.Synced ticket) own rest = rest
    by (events.Rests who) own rest = rest
    by (events.Wants ticket place) own rest = absurd (cc own)
    by (events.Queues place) own rest = absurd (cc own)
    by (events.Syncs ticket) own rest = absurd (cc own)
    by (events.Drains who) own rest = absurd (cc own)

-- ---- calls

-- what the events of a call make of the load
changes : {D : Type 0} (old new : View D) (added : List Event) → new.events ≡ old.events ++ added → IsTrail new.events
    → load_of new + steps added ≤ load_of old + length (filter is_submitted added)
changes old new added is trail =
    let same : load_of new ≡ load (fold after (after_all old.events) added) =
    ap (λ (es : List Event). load (after_all es)) is ∙ ap load (fold-append after start old.events added) in
    omega (
      arith,
      same,
      trails_change_the_load (after_all old.events) added
          (trail_behind old.events added (subst IsTrail is trail)),
    )

-- a turn of a session that waits lowers what is left to do by its step
pub turn_takes : {D : Type 0} (most : ℕ) (before now : Drive) (old new : View D) (who ticket : ℕ) (answer : Turn)
    → IsTrail new.events → Turns most before now old new who ticket answer
    → load_of new + taken_by answer ≤ load_of old
turn_takes most before now old new who ticket answer trail t =
    omega (
      arith,
      changes old new t.added t.adds.events trail,
      none_submitted t.added (made_are t.added t.step.shape),
      made answer t,
    )
  where
    made : (answer : Turn) → (t : Turns most before now old new who ticket answer) → taken_by answer ≤ steps t.added
    made (turns.Ready reply) t = omega arith
    made turns.More t = omega (arith, t.answered.1)

rest_is : (who : ℕ) (answer : Drained) → All (λ e. is_submitted e ≡ false) (rest_of who answer)
rest_is who drained.Room =
    All-cons (λ (e : Event). is_submitted e ≡ false) (events.Rests who) [] refl
    (All-nil (λ (e : Event). is_submitted e ≡ false))
rest_is who drained.More = All-nil (λ (e : Event). is_submitted e ≡ false)
rest_is who (drained.Fault counts) = All-nil (λ (e : Event). is_submitted e ≡ false)

-- a turn of a session that drains lowers what is left to do by its step
pub drain_takes : {D : Type 0} (most : ℕ) (before now : Drive) (old new : View D) (who : ℕ) (answer : Drained)
    → IsTrail new.events → DrainsOnce most before now old new who answer
    → load_of new + taken_by_drain answer ≤ load_of old
drain_takes most before now old new who answer trail d =
    let all = d.made ++ rest_of who answer in
    let own = All-append (λ (e : Event). is_submitted e ≡ false) d.made (rest_of who answer)
    (made_are d.made d.step.shape) (rest_is who answer) in
    let more : steps d.made ≤ steps all =
    omega (
      arith,
      ap length (filter_map-append step_to d.made (rest_of who answer)),
      length-append (filter_map step_to d.made) (filter_map step_to (rest_of who answer)),
    ) in
    omega (arith, changes old new all d.adds.events trail, none_submitted all own, more, made answer d)
  where
    made : (answer : Drained) → (d : DrainsOnce most before now old new who answer)
        → taken_by_drain answer ≤ steps d.made
    made drained.Room d = omega arith
    made drained.More d = omega (arith, d.answered.2)
    made (drained.Fault counts) d = omega arith

-- a submission adds one at most to what is left to do for each of its events
pub submission_adds : {D : Type 0} (first now : Drive) (old new : View D) (who nth : ℕ) (answer : Submitted)
    → IsTrail new.events → Submits first now old new who nth answer
    → load_of new ≤ load_of old + (length new.events - length old.events)
submission_adds first now old new who nth answer trail s =
    omega (
      arith,
      changes old new s.added s.adds.events trail,
      length-filter_both is_submitted (λ e. not (is_submitted e)) (λ e. refl) s.added,
      ap length s.adds.events,
      length-append old.events s.added,
    )
