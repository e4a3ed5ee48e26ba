-- A turn of a session that drains, and that the volume runs on.
use Rattle.std.proofs.Common.{◌≡◌, ◌≤◌, ◌<◌, ◌-◌, ◌^◌, ℕ, List, [], Option, refl}
use Rattle.tape_types.specs.declared.cartridges.Cartridge.{Cartridge}
use Rattle.tape_types.specs.declared.moments.Moment.{Moment}
use Rattle.tape_drive.specs.declared.drive.Drive.{Ghosts}
use Rattle.session_script.specs.declared.logs.Event.{Event}
use Rattle.promises.specs.ServingPromise.Marks.{draining, phase}
use Rattle.promises.specs.ServingPromise.Served.{Fixed}
use Rattle.promises.specs.ServingPromise.Steps.{DrainsOnce, IsDrained}
use Rattle.promises.specs.declared.serving_promise.answers.Drained.{Drained}
use Rattle.promises.specs.declared.serving_promise.answers.Drained.TheVariants as the_drained
use Rattle.promises.specs.OrderLaws.Kept.{seen}
use Rattle.promises.proofs.ReplyLaws.Draining.{drains_stay_for_writes}
use Rattle.promises.proofs.PromiseLaws.Joined.{drain_turns_keep_all}
use Rattle.volume_state.specs.StateLaws.Parts.{Parts, view_of}
use Rattle.volume_state.proofs.CallLaws.ShowLaw.{steps_show}
use Rattle.volume_state.specs.CallLaws.Draining.{IsFull, fault, room, then_fault, then_more, then_room}
use Rattle.volume_state.specs.CallLaws.Handing.{StepsOn}
use Rattle.volume_state.specs.CallLaws.Laws.{DrainTurnsRun}
use Rattle.volume_state.specs.ClosingLaws.Ready.{IsStepOnTape}
use Rattle.volume_state.specs.CallLaws.Running.{IsReadyToClose, IsRunning}
use Rattle.volume_state.proofs.CallLaws.DrainEnds.{Ends, fault_ends, more_ends, rest_ends}
use Rattle.volume_state.proofs.CallLaws.ToClose.{turned_ready, voided_ready}
use Rattle.volume_state.proofs.CallLaws.DrainMade.{Went, went_nothing, went_step}

module _ {D : Type 0} (drive : Ghosts D)
    (only_now : (d : D) (image : Cartridge) → drive.commands d < 2 ^ 64 - 1 → drive.left_since d (drive.commands d) image → drive.leaves d image) where
  module _ (fixed : Fixed D) (before : Option Moment) (who : ℕ) (old : Parts D) (run : IsRunning drive fixed before old)
      (drains : phase who old.listed.marks ≡ draining) where
    -- the volume can be closed then too
    closes_on : (after : Option Moment) (answer : Drained) (new : Parts D)
        → Ends drive fixed run.planned before after who answer old new
        → IsReadyToClose drive fixed run.plan run.planned (view_of fixed after new)
    closes_on after answer new e = by answer e.once.answered
      where
        step : IsStepOnTape drive run.planned (view_of fixed before old) (view_of fixed after new) e.once.made
        step = record {
          way = run.tied.way;
          driven = e.driven;
          still = e.once.step.counts.still;
          fixed = refl;
          on = e.once.step.on;
        }

        by : (answer : Drained) → IsDrained (view_of fixed before old) (view_of fixed after new) who e.once.made answer
            → IsReadyToClose drive fixed run.plan run.planned (view_of fixed after new)
        by (the_drained.Fault counts) did =
            voided_ready drive fixed before after run.plan run.planned old new e.once.made run.closes step
            did.1.placed did.1.history did.1.fate_is
        by the_drained.Room did =
            turned_ready drive fixed before after run.plan run.planned old new e.once.made run.closes step
            did.2.history
        by the_drained.More did =
            turned_ready drive fixed before after run.plan run.planned old new e.once.made run.closes step
            did.3.history

    -- what a turn shows that ends so leaves the volume running
    runs_on : (after : Option Moment) (answer : Drained) (new : Parts D) → Ends drive fixed run.planned before after who answer old new
        → DrainsOnce drive.MOST (seen drive old.drive) (seen drive new.drive) (view_of fixed before old) (view_of fixed after new) who answer
        × IsRunning drive fixed after new
    runs_on after answer new e = (
      e.once,
      record {
        planned = run.planned;
        plan = run.plan;
        kept = drain_turns_keep_all drive only_now fixed run.plan drive.MOST (view_of fixed before old) (view_of fixed after new) who answer
            run.kept drains e.once e.rightly;
        tied = e.tied;
        planned_as = run.planned_as;
        writes = (drains_stay_for_writes (seen drive)).drains drive.MOST old.drive new.drive (view_of fixed before old) (view_of fixed after new)
            who answer drains e.once run.writes;
        answers = e.answers;
        closes = closes_on after answer new e;
        allowed = run.allowed;
      },
    )

    at_once : drive.commands old.drive ≤ 2 ^ 64 - 1 → Went drive fixed run.planned before who old old []
    at_once fits = went_nothing drive fixed run.plan run.planned before who old run.kept fits run.tied run.answers

    stepped : (mid : Parts D) (added : List Event) → IsFull who old → StepsOn drive added old mid → Went drive fixed run.planned before who old mid added
    stepped mid added full on =
        let shown = steps_show drive fixed run.plan run.planned before old mid added run.kept run.tied on.steps in
        went_step drive fixed run.planned before who old mid added run.kept.order run.answers full on shown.0 shown.1

  -- a turn of a session that drains adds what is promised, and the volume runs on
  pub drain_turns_all_run : DrainTurnsRun drive
  drain_turns_all_run fixed before after who at answer old new run fits drains moment asks next (fault counts t) =
      runs_on fixed before who old run drains after answer new
      (fault_ends drive fixed run.planned before who old old [] run.kept.order drains (at_once fixed before who old run drains fits)
      after at counts new run.writes moment asks t)
  drain_turns_all_run fixed before after who at answer old new run fits drains moment asks next (room r) =
      runs_on fixed before who old run drains after answer new
      (rest_ends drive fixed run.planned before who old old [] run.kept.order drains (at_once fixed before who old run drains fits) after new next r)
  drain_turns_all_run fixed before after who at answer old new run fits drains moment asks next (then_fault added mid counts full on t) =
      runs_on fixed before who old run drains after answer new
      (fault_ends drive fixed run.planned before who old mid added run.kept.order drains (stepped fixed before who old run drains mid added full on)
      after at counts new run.writes moment asks t)
  drain_turns_all_run fixed before after who at answer old new run fits drains moment asks next (then_room added mid full on r) =
      runs_on fixed before who old run drains after answer new
      (rest_ends drive fixed run.planned before who old mid added run.kept.order drains (stepped fixed before who old run drains mid added full on) after new next r)
  drain_turns_all_run fixed before after who at answer old new run fits drains moment asks next (then_more added full on left) =
      let shown = steps_show drive fixed run.plan run.planned before old new added run.kept run.tied on.steps in
      runs_on fixed before who old run drains after answer new
      (more_ends drive fixed run.planned before who old new added run.kept.order drains (stepped fixed before who old run drains new added full on)
      after next shown.0.one left)
