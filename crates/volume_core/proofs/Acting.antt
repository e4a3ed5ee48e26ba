-- Each turn moves a volume on by one act of its drive at most.
use Rattle.std.specs.Prelude.{◌≡◌, ◌≢◌, ◌≤◌, ℕ, false, List, [], ◌∷◌, ◌++◌, All, length, map, Option}
use Rattle.std.proofs.Common.{refl, sym, ap, subst, ◌∙◌, arith, append_assoc, append-nil}
use Rattle.std.proofs.lemmas.List.Elements.{All-append, All-cons, All-nil}
use Rattle.tape_types.specs.declared.cartridges.Twin.{Twin}
use Rattle.tape_types.specs.declared.moments.Moment.{Moment}
use Rattle.tape_drive.specs.declared.drive.Drive.{Ghosts}
use Rattle.plain_tree.specs.declared.calls.Placed.{Placed}
use Rattle.session_script.specs.declared.logs.Ack.{Ack}
use Rattle.session_script.specs.declared.logs.Event.{Event}
use Rattle.session_script.specs.declared.logs.Event.TheVariants as events
use Rattle.session_script.specs.declared.logs.Reply.{Reply}
use Rattle.head_core.specs.declared.work.StepDone.{StepDone}
use Rattle.head_core.specs.declared.work.StepDone.TheVariants as ends
use Rattle.head_queue.specs.EventLaws.Trail.{after_all}
use Rattle.head_queue.specs.EventLaws.Waiting.{State, ops}
use Rattle.promises.specs.ServingPromise.Marks.{phase, waits}
use Rattle.promises.specs.ServingPromise.Served.{Fixed, View, headed}
use Rattle.promises.specs.ServingPromise.Steps.{is_step}
use Rattle.promises.specs.ServingPromise.Submits.{Adds, acks_for}
use Rattle.promises.specs.declared.serving_promise.answers.Drained.{Drained}
use Rattle.promises.specs.declared.serving_promise.answers.Drained.TheVariants as the_drained
use Rattle.promises.specs.declared.serving_promise.answers.Turn.{Turn}
use Rattle.promises.specs.OrderLaws.Kept.{seen}
use Rattle.promises.specs.CrashLaws.Changes.{IsWell}
use Rattle.event_journal.specs.Trails.{Journaled}
use Rattle.run_laws.specs.LogLaws.Acts as acts
use Rattle.run_laws.specs.LogLaws.Acts.{AreActs, Moves}
use Rattle.run_laws.proofs.LogLaws.Gone.{acks_append}
use Rattle.volume_state.specs.StateLaws.Parts.{Parts, view_of}
use Rattle.volume_state.specs.StateLaws.Stepping.{Steps, does, fails, misses, reads, synced_events}
use Rattle.volume_state.specs.CallLaws.Draining.{DrainsTo, RestsNow, TakesFault, fault, room, then_fault, then_more, then_room}
use Rattle.volume_state.specs.CallLaws.Handing.{HandsOut, StepsOn, TurnsTo, at_once, more, then_ready}
use Rattle.volume_core.specs.Serving.{IsServing, next_moment}
use Rattle.volume_core.specs.Turns.{DrainsAt, Told, told}
use Rattle.volume_core.proofs.Ready.{shown}

-- ---- the step

abbrev AreStill : List Event → Type 0
AreStill added = All (λ e. is_step e ≡ false) added

none_still : AreStill []
none_still = All-nil (λ (e : Event). is_step e ≡ false)

synced_still : (tickets : List ℕ) → AreStill (synced_events tickets)
synced_still [] = none_still
synced_still (t ∷ tickets) =
    All-cons (λ (e : Event). is_step e ≡ false) (events.Synced t) (synced_events tickets) refl (synced_still tickets)

no_failure : (end : StepDone) → IsWell end → (counts : Twin) → end ≢ ends.Failed counts
no_failure (ends.Failed told) well counts is = absurd well
no_failure (ends.Read answer) well counts is = absurd (cc is)
no_failure ends.Wrote well counts is = absurd (cc is)
no_failure ends.Flushed well counts is = absurd (cc is)

-- A step of the head is the act of the drive that its event tells of.
steps_act : {D : Type 0} (drive : Ghosts D) (old new : Parts D) (added : List Event)
    → map headed old.stock.layout.ops ≡ ops (after_all old.trail.events) → Steps drive old new added
    → AreActs drive (after_all old.trail.events) old.drive new.drive added
steps_act drive old new _ headed_are (does op end tickets s) =
    acts.one _ (synced_events tickets) (
      op,
      map headed new.stock.layout.ops,
      end,
      sym headed_are ∙ ap (map headed) s.done.first,
      refl,
      no_failure end s.well,
      s.step,
    ) (synced_still tickets)
steps_act drive old new _ headed_are (fails op later counts s) =
    acts.one _ [] (op, map headed later, ends.Failed counts, sym headed_are ∙ ap (map headed) s.first, refl, refl, s.step)
    none_still
steps_act drive old new _ headed_are (reads ticket place got block s) =
    acts.one _ [] (ends.Read got, (λ counts is. absurd (cc is)), s.step) none_still
steps_act drive old new _ headed_are (misses ticket place counts s) =
    acts.one _ [] (ends.Failed counts, refl, s.step) none_still

-- ---- what comes behind it

-- what a turn does behind its step makes no command
record IsQuiet {D : Type 0} (mid new : Parts D) : Type 0 where
  placed : List Placed
  one : length placed ≤ 1
  history : new.listed.history ≡ mid.listed.history ++ placed
  rest : List Event
  still : AreStill rest
  none : (commands : ℕ) → acks_for commands rest ≡ []
  events : new.trail.events ≡ mid.trail.events ++ rest
  acks : new.trail.acks ≡ mid.trail.acks
  drive : new.drive ≡ mid.drive

acts_on : {D : Type 0} (drive : Ghosts D) (st : State) (old new : D) (added rest : List Event) → AreStill rest
    → AreActs drive st old new added → AreActs drive st old new (added ++ rest)
acts_on drive st old new _ rest still (acts.none added all same) =
    acts.none (added ++ rest) (All-append (λ (e : Event). is_step e ≡ false) added rest all still) same
acts_on drive st old new _ rest still (acts.one e others act all) =
    acts.one e (others ++ rest) act (All-append (λ (e : Event). is_step e ≡ false) others rest all still)

module _ {D : Type 0} (drive : Ghosts D) (fixed : Fixed D) (next then : Option Moment) (old : Parts D) where
  -- a step, or none, and what comes behind it
  goes_on : (mid new : Parts D) (added : List Event)
      → AreActs drive (after_all old.trail.events) old.drive mid.drive added
      → mid.listed.history ≡ old.listed.history
      → Adds (seen drive mid.drive) (view_of fixed next old) (view_of fixed next mid) added
      → IsQuiet mid new → Moves drive (view_of fixed next old) (view_of fixed then new)
  goes_on mid new added act history adds q = record {
    fixed = refl;
    placed = q.placed;
    one = q.one;
    history = q.history ∙ ap (λ (h : List Placed). h ++ q.placed) history;
    added = added ++ q.rest;
    adds = record {
      events = q.events ∙ ap (λ (es : List Event). es ++ q.rest) adds.events
          ∙ append_assoc old.trail.events added q.rest;
      acks = q.acks ∙ adds.acks
          ∙ ap (λ (xs : List Ack). old.trail.acks ++ xs)
          (sym (append-nil (acks_for (drive.commands mid.drive) added))
          ∙ ap (λ (xs : List Ack). acks_for (drive.commands mid.drive) added ++ xs)
          (sym (q.none (drive.commands mid.drive)))
          ∙ sym (acks_append (drive.commands mid.drive) added q.rest)
          ∙ ap (λ d. acks_for (drive.commands d) (added ++ q.rest)) (sym q.drive));
    };
    acts = acts_on drive (after_all old.trail.events) old.drive new.drive added q.rest q.still
        (subst (λ d. AreActs drive (after_all old.trail.events) old.drive d added) (sym q.drive) act);
  }

  no_step : (new : Parts D) → IsQuiet old new → Moves drive (view_of fixed next old) (view_of fixed then new)
  no_step new q = goes_on old new [] (acts.none [] none_still refl) refl
      (record { events = sym (append-nil old.trail.events); acks = sym (append-nil old.trail.acks) }) q

nothing_behind : {D : Type 0} (p : Parts D) → IsQuiet p p
nothing_behind p = record {
  placed = [];
  one = omega arith;
  history = sym (append-nil p.listed.history);
  rest = [];
  still = none_still;
  none = λ commands. refl;
  events = sym (append-nil p.trail.events);
  acks = refl;
  drive = refl;
}

handed_quietly : {D : Type 0} (who ticket : ℕ) (reply : Reply) (mid new : Parts D) → HandsOut who ticket reply mid new
    → IsQuiet mid new
handed_quietly who ticket reply mid new h = record {
  placed = [];
  one = omega arith;
  history = h.history ∙ sym (append-nil mid.listed.history);
  rest = [];
  still = none_still;
  none = λ commands. refl;
  events = ap (λ (t : Journaled). t.events) h.trail ∙ sym (append-nil mid.trail.events);
  acks = ap (λ (t : Journaled). t.acks) h.trail;
  drive = h.drive;
}

rested_quietly : {D : Type 0} (who : ℕ) (mid new : Parts D) → RestsNow who mid new → IsQuiet mid new
rested_quietly who mid new r = record {
  placed = [];
  one = omega arith;
  history = r.history ∙ sym (append-nil mid.listed.history);
  rest = events.Rests who ∷ [];
  still = All-cons (λ (e : Event). is_step e ≡ false) (events.Rests who) [] refl none_still;
  none = λ commands. refl;
  events = r.events;
  acks = r.tape.acks;
  drive = r.tape.drive;
}

told_quietly : {D : Type 0} (who nth : ℕ) (at : Moment) (counts : Twin) (mid new : Parts D)
    → TakesFault who nth at counts mid new → IsQuiet mid new
told_quietly who nth at counts mid new t = record {
  placed = _;
  one = omega arith;
  history = t.places.history;
  rest = [];
  still = none_still;
  none = λ commands. refl;
  events = t.events ∙ sym (append-nil mid.trail.events);
  acks = t.tape.acks;
  drive = t.tape.drive;
}

-- ---- turns

module _ {D : Type 0} (drive : Ghosts D) (fixed : Fixed D) (one next : Option Moment) (old : Parts D)
    (serving : IsServing drive fixed one next old) where
  abbrev now : Option Moment
  now = next_moment one next

  step_goes_on : (then : Option Moment) (mid new : Parts D) (added : List Event) → StepsOn drive added old mid
      → IsQuiet mid new → Moves drive (view_of fixed now old) (view_of fixed then new)
  step_goes_on then mid new added s q =
      let shows = (shown drive fixed now old serving.runs mid added s).0 in
      goes_on drive fixed now then old mid new added
      (steps_act drive old mid added serving.runs.kept.order.orderly.standing s.steps) shows.history shows.adds q

  turn_goes_on : (who ticket : ℕ) (answer : Turn) (new : Parts D) → TurnsTo drive who ticket old new answer
      → Moves drive (view_of fixed now old) (view_of fixed now new)
  turn_goes_on who ticket all new (at_once reply h) =
      no_step drive fixed now now old new (handed_quietly who ticket reply old new h)
  turn_goes_on who ticket all new (then_ready added mid reply yet s h) =
      step_goes_on now mid new added s (handed_quietly who ticket reply mid new h)
  turn_goes_on who ticket all new (more added s yet) = step_goes_on now new new added s (nothing_behind new)

  -- A turn of a session that waits moves the volume on.
  pub turn_moves : (ticket : ℕ) (answer : Turn) (new : Parts D)
      → ((who : ℕ) → phase who old.listed.marks ≡ waits ticket → TurnsTo drive who ticket old new answer)
      → (v : View D) → view_of fixed now old ≡ v → (who : ℕ) × (phase who v.marks ≡ waits ticket)
      → Moves drive v (view_of fixed now new)
  turn_moves ticket answer new to v is some =
      subst (λ (u : View D). Moves drive u (view_of fixed now new)) is
      (turn_goes_on some.0 ticket answer new
      (to some.0 (subst (λ (u : View D). phase some.0 u.marks ≡ waits ticket) (sym is) some.1)))

  drain_goes_on : (who nth : ℕ) (at : Moment) (then : Option Moment) (answer : Drained) (new : Parts D)
      → DrainsTo drive who nth at old new answer → Moves drive (view_of fixed now old) (view_of fixed then new)
  drain_goes_on who nth at then all new (fault counts t) =
      no_step drive fixed now then old new (told_quietly who nth at counts old new t)
  drain_goes_on who nth at then all new (room r) =
      no_step drive fixed now then old new (rested_quietly who old new r)
  drain_goes_on who nth at then all new (then_fault added mid counts full s t) =
      step_goes_on then mid new added s (told_quietly who nth at counts mid new t)
  drain_goes_on who nth at then all new (then_room added mid full s r) =
      step_goes_on then mid new added s (rested_quietly who mid new r)
  drain_goes_on who nth at then all new (then_more added full s left) =
      step_goes_on then new new added s (nothing_behind new)

  drained_at : (who : ℕ) (before after : Told) (then : Option Moment) (answer : Drained) (new : Parts D)
      → DrainsAt drive who before after old new answer → Moves drive (view_of fixed now old) (view_of fixed then new)
  drained_at who before after then (the_drained.Fault counts) new to =
      drain_goes_on who _ to.0 then (the_drained.Fault counts) new to.2
  drained_at who before after then the_drained.Room new to =
      drain_goes_on who _ fixed.mounted.label.formatted then the_drained.Room new (to.1 fixed.mounted.label.formatted)
  drained_at who before after then the_drained.More new to =
      drain_goes_on who _ fixed.mounted.label.formatted then the_drained.More new (to.1 fixed.mounted.label.formatted)

  -- A turn of a session that drains moves the volume on.
  pub drain_moves : (who : ℕ) (one_after after : Option Moment) (answer : Drained) (new : Parts D)
      → DrainsAt drive who (told one next) (told one_after after) old new answer → (v : View D)
      → view_of fixed now old ≡ v → Moves drive v (view_of fixed (next_moment one_after after) new)
  drain_moves who one_after after answer new to v is =
      subst (λ (u : View D). Moves drive u (view_of fixed (next_moment one_after after) new)) is
      (drained_at who (told one next) (told one_after after) (next_moment one_after after) answer new to)
