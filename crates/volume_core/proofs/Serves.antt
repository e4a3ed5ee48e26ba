-- A turn keeps what is kept of a volume that is served.
use Rattle.std.specs.Prelude.{ℕ, ◌≡◌, ◌<◌, ◌≤◌, ◌-◌, ◌^◌, ◌==◌, ◌++◌, true, false, List, [], ◌∷◌, length, Option, Some, None, IfSome, slice_get}
use Rattle.std.proofs.Common.{refl, sym, ap, subst, ◌∙◌, arith}
use Rattle.std.proofs.lemmas.List.{length_push}
use Rattle.tape_types.specs.declared.cartridges.Cartridge.{Cartridge}
use Rattle.tape_types.specs.declared.moments.Moment.{Moment}
use Rattle.tape_drive.specs.declared.drive.Drive.{Ghosts}
use Rattle.plain_tree.specs.declared.calls.Placed.{Placed}
use Rattle.session_script.specs.declared.logs.Event.{Event}
use Rattle.tape_layout.specs.declared.ops.Op.{Op}
use Rattle.promises.specs.ServingPromise.Marks.{draining, phase, places_of, waits}
use Rattle.promises.specs.ServingPromise.Meanings.{cartridges}
use Rattle.promises.specs.ServingPromise.Served.{Fixed, IsServed, View}
use Rattle.promises.specs.ServingPromise.Steps.{DrainsOnce, Turns}
use Rattle.promises.specs.declared.serving_promise.answers.Drained.{Drained}
use Rattle.promises.specs.declared.serving_promise.answers.Drained.TheVariants as the_drained
use Rattle.promises.specs.declared.serving_promise.answers.Turn.{Turn}
use Rattle.promises.specs.OrderLaws.Kept.{seen}
use Rattle.promises.specs.OrderLaws.Sides.{AsksOneMoment}
use Rattle.promises.proofs.OrderLaws.Picked.{passes}
use Rattle.held_volume.specs.Stocks.{Stocked}
use Rattle.volume_state.specs.StateLaws.Parts.{Parts, view_of}
use Rattle.volume_state.specs.CallLaws.Draining.{DrainsTo, IsFull, fault, room, then_fault, then_more, then_room}
use Rattle.volume_state.specs.CallLaws.Handing.{StepsOn, TurnsTo}
use Rattle.volume_state.specs.CallLaws.Laws.{IsAfter}
use Rattle.volume_state.specs.CallLaws.Running.{IsRunning}
use Rattle.volume_state.proofs.CallLaws.DrainTurn.{drain_turns_all_run}
use Rattle.volume_state.proofs.CallLaws.Promised.{running_is_promised}
use Rattle.volume_state.proofs.CallLaws.TurnAnswers.{placed_by_it}
use Rattle.volume_state.proofs.CallLaws.TurnLaw.{turns_run}
use Rattle.volume_core.specs.Serving.{IsServing, next_moment}
use Rattle.volume_core.specs.Turns.{DrainsAt, Told, told}
use Rattle.volume_core.proofs.Ready.{shown}

-- ---- moments

-- a moment that the clock may give, where any may come
some_moment : Moment → (next : Option Moment) → (at : Moment) × IfSome next (λ m. at ≡ m)
some_moment any None = (any, tt)
some_moment any (Some m) = (m, refl)

asks : (o one next : Option Moment) → IfSome o (λ m. one ≡ Some m) → IfSome o (λ m. next_moment one next ≡ Some m)
asks None one next is = tt
asks (Some m) one next is = ap (λ t. next_moment t next) is

still_one : (o one after : Option Moment) → IfSome o (λ m. one ≡ Some m) → IfSome one (λ m. after ≡ Some m)
    → IfSome o (λ m. after ≡ Some m)
still_one None one after is still = tt
still_one (Some m) one after is still = subst (λ t. IfSome t (λ m. after ≡ Some m)) is still

no_push : {X : Type 0} (xs : List X) (x : X) → xs ++ x ∷ [] ≡ [] → ⊥
no_push xs x none = omega (arith, ap length none, length_push xs x)

-- a volume is served on: all that is promised of it holds, and there is room for as many calls
pub record ServesOn {D : Type 0} (drive : Ghosts D) (fixed : Fixed D) (one next : Option Moment) (old new : Parts D)
    : Type 0 where
  pub serving : IsServing drive fixed one next new
  pub promised : IsServed cartridges (seen drive fixed.first) (seen drive new.drive)
      (view_of fixed (next_moment one next) new)
  pub calls : new.listed.calls ≡ old.listed.calls

module _ {D : Type 0} (drive : Ghosts D)
    (only_now : (d : D) (image : Cartridge) → drive.commands d < 2 ^ 64 - 1
    → drive.left_since d (drive.commands d) image → drive.leaves d image)
    (fixed : Fixed D) (one next : Option Moment) (old : Parts D) (serving : IsServing drive fixed one next old)
    (counted : drive.commands old.drive ≤ 2 ^ 64 - 1) where
  abbrev now : Option Moment
  now = next_moment one next

  serves : (one_after after : Option Moment) (new : Parts D) → IsServing drive fixed one_after after new
      → ServesOn drive fixed one_after after old new
  serves one_after after new on = record {
    serving = on;
    promised = running_is_promised drive fixed (next_moment one_after after) new on.runs;
    calls = on.runs.tied.calls ∙ sym serving.runs.tied.calls;
  }

  -- ---- a session that waits

  module _ (who ticket : ℕ) (answer : Turn) (new : Parts D) (waiting : phase who old.listed.marks ≡ waits ticket)
      (to : TurnsTo drive who ticket old new answer) where
    turned : Turns drive.MOST (seen drive old.drive) (seen drive new.drive) (view_of fixed now old) (view_of fixed now new)
        who ticket answer
        × IsRunning drive fixed now new
    turned = turns_run drive only_now fixed now who ticket answer old new serving.runs counted waiting to

    -- whose call waits was placed
    some_placed : old.listed.history ≡ [] → ⊥
    some_placed none =
        let no : false ≡ true =
        sym (ap (λ (ps : List Placed). passes (λ (q : Placed). q.who == who) (slice_get ps ticket)) none)
        ∙ placed_by_it drive (view_of fixed now old) serving.runs.kept.order who ticket waiting in cc

    turn_serves : IsServing drive fixed one next new
    turn_serves = record {
      runs = turned.1;
      one_moment = serving.one_moment;
      untouched = λ none. absurd (some_placed (sym turned.0.history ∙ none));
    }

  -- of the volume as contracts see it
  module _ (ticket : ℕ) (answer : Turn) (new : Parts D)
      (to : (who : ℕ) → phase who old.listed.marks ≡ waits ticket → TurnsTo drive who ticket old new answer)
      (v : View D) (is : view_of fixed now old ≡ v) where
    -- a turn of a session that waits adds what is promised of it
    pub turn_adds : (who : ℕ) → phase who v.marks ≡ waits ticket
        → Turns drive.MOST (seen drive v.drive) (seen drive new.drive) v (view_of fixed now new) who ticket answer
    turn_adds who =
        subst (λ (u : View D). phase who u.marks ≡ waits ticket
        → Turns drive.MOST (seen drive u.drive) (seen drive new.drive) u (view_of fixed now new) who ticket answer) is
        (λ waiting. (turned who ticket answer new waiting (to who waiting)).0)

    -- after a turn of a session that waits the volume is served on
    pub turn_serves_on : (who : ℕ) × (phase who v.marks ≡ waits ticket) → ServesOn drive fixed one next old new
    turn_serves_on some =
        let waiting = subst (λ (u : View D). phase some.0 u.marks ≡ waits ticket) (sym is) some.1 in
        serves one next new (turn_serves some.0 ticket answer new waiting (to some.0 waiting))

  -- ---- a session that drains

  -- no step is made where nothing was placed, since no op stands then
  unmade : {X : Type 0} (who : ℕ) → IsFull who old → old.listed.history ≡ [] → X
  unmade who full none =
      absurd (omega (arith, full.many, ap (λ (ops : List Op). length ops) (serving.untouched none).1))

  stays : (mid : Parts D) (added : List Event) → StepsOn drive added old mid → mid.listed.history ≡ old.listed.history
  stays mid added on = (shown drive fixed now old serving.runs mid added on).0.history

  untouched_on : (who nth : ℕ) (at : Moment) (new : Parts D) (answer : Drained)
      → DrainsTo drive who nth at old new answer
      → new.listed.history ≡ [] → (new.drive ≡ fixed.first) × (new.stock.layout.ops ≡ [])
  untouched_on who nth at new all (fault counts t) none =
      absurd (no_push old.listed.history _ (sym t.places.history ∙ none))
  untouched_on who nth at new all (room r) none =
      let was = serving.untouched (sym r.history ∙ none) in
      (r.tape.drive ∙ was.0, ap (λ (s : Stocked). s.layout.ops) r.tape.stock ∙ was.1)
  untouched_on who nth at new all (then_fault added mid counts full on t) none =
      absurd (no_push mid.listed.history _ (sym t.places.history ∙ none))
  untouched_on who nth at new all (then_room added mid full on r) none =
      unmade who full (sym (stays mid added on) ∙ sym r.history ∙ none)
  untouched_on who nth at new all (then_more added full on left) none =
      unmade who full (sym (stays new added on) ∙ none)

  module _ (who : ℕ) (one_after after : Option Moment) (new : Parts D)
      (drains : phase who old.listed.marks ≡ draining) where
    abbrev then : Option Moment
    then = next_moment one_after after

    abbrev nth : ℕ
    nth = length (places_of who old.listed.marks)

    abbrev Adds : Drained → Type 0
    Adds answer =
        DrainsOnce drive.MOST (seen drive old.drive) (seen drive new.drive) (view_of fixed now old) (view_of fixed then new)
        who answer

    drained : (answer : Drained) (at : Moment) → IfSome now (λ m. at ≡ m) → AsksOneMoment (view_of fixed now old) answer
        → IsAfter now then answer → DrainsTo drive who nth at old new answer
        → Adds answer × IsRunning drive fixed then new
    drained answer at moment asked next to =
        drain_turns_all_run drive only_now fixed now then who at answer old new serving.runs counted drains moment asked
        next to

    -- the clock wasn't asked
    unasked : (answer : Drained) → told one_after after ≡ told one next
        → ((at : Moment) → IfSome now (λ m. at ≡ m) → Adds answer × IsRunning drive fixed then new)
        → ((at : Moment) → DrainsTo drive who nth at old new answer)
        → Adds answer × IsServing drive fixed one_after after new
    unasked answer same law to =
        let m = some_moment fixed.mounted.label.formatted now in
        let l = law m.0 m.1 in (
          l.0,
          record {
            runs = l.1;
            one_moment = subst (λ o. IfSome fixed.moment (λ m. o ≡ Some m)) (sym (ap (λ (t : Told). t.one) same))
                serving.one_moment;
            untouched = untouched_on who nth m.0 new answer (to m.0);
          },
        )

    drain_serves : (answer : Drained) → DrainsAt drive who (told one next) (told one_after after) old new answer
        → Adds answer × IsServing drive fixed one_after after new
    drain_serves (the_drained.Fault counts) e =
        let l =
        drained (the_drained.Fault counts) e.0 e.1.given (asks fixed.moment one next serving.one_moment) tt e.2 in (
          l.0,
          record {
            runs = l.1;
            one_moment = still_one fixed.moment one one_after serving.one_moment e.1.still;
            untouched = untouched_on who nth e.0 new (the_drained.Fault counts) e.2;
          },
        )
    drain_serves the_drained.Room e = unasked the_drained.Room e.0
        (λ at is. drained the_drained.Room at is tt (ap (λ (t : Told). next_moment t.one t.next) e.0) (e.1 at)) e.1
    drain_serves the_drained.More e = unasked the_drained.More e.0
        (λ at is. drained the_drained.More at is tt (ap (λ (t : Told). next_moment t.one t.next) e.0) (e.1 at)) e.1

  -- of the volume as contracts see it
  module _ (who : ℕ) (one_after after : Option Moment) (answer : Drained) (new : Parts D)
      (to : DrainsAt drive who (told one next) (told one_after after) old new answer)
      (v : View D) (is : view_of fixed now old ≡ v) (drains : phase who v.marks ≡ draining) where
    pub draining_is : phase who old.listed.marks ≡ draining
    draining_is = subst (λ (u : View D). phase who u.marks ≡ draining) (sym is) drains

    -- a turn of a session that drains adds what is promised of it
    pub drain_adds : DrainsOnce drive.MOST (seen drive v.drive) (seen drive new.drive) v
        (view_of fixed (next_moment one_after after) new) who answer
    drain_adds =
        subst (λ (u : View D). DrainsOnce drive.MOST (seen drive u.drive) (seen drive new.drive) u
        (view_of fixed (next_moment one_after after) new) who answer) is
        (drain_serves who one_after after new draining_is answer to).0

    -- after a turn of a session that drains the volume is served on
    pub drain_serves_on : ServesOn drive fixed one_after after old new
    drain_serves_on = serves one_after after new (drain_serves who one_after after new draining_is answer to).1
