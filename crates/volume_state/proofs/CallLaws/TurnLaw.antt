-- A turn of a session that waits adds what is promised of it, and the volume runs on.
use Rattle.std.specs.Prelude.{◌≡◌, ◌-◌, ◌^◌, ◌<◌, ◌≤◌, ℕ, List, [], Option, Some, None, slice_get}
use Rattle.std.proofs.Common.{refl, sym, ap, subst, ◌∙◌}
use Rattle.std.proofs.lemmas.Option.{same_Some}
use Rattle.tape_types.specs.declared.cartridges.Cartridge.{Cartridge}
use Rattle.tape_types.specs.declared.moments.Moment.{Moment}
use Rattle.tape_drive.specs.declared.drive.Drive.{Ghosts}
use Rattle.session_script.specs.declared.logs.Event.{Event}
use Rattle.session_script.specs.declared.logs.Reply.{Reply}
use Rattle.promises.specs.ServingPromise.Marks.{phase, waits}
use Rattle.promises.specs.ServingPromise.Served.{Fixed}
use Rattle.promises.specs.ServingPromise.Steps.{Turns}
use Rattle.promises.specs.declared.serving_promise.answers.Turn.{Turn}
use Rattle.promises.specs.declared.serving_promise.answers.Turn.TheVariants as the_turns
use Rattle.promises.specs.OrderLaws.Kept.{seen}
use Rattle.promises.proofs.ReplyLaws.Draining.{drains_stay_for_writes}
use Rattle.promises.proofs.PromiseLaws.Joined.{turns_keep_all}
use Rattle.volume_state.proofs.CallLaws.ShowLaw.{steps_show}
use Rattle.volume_state.specs.PlanLaws.Planned.{Items}
use Rattle.volume_state.specs.StateLaws.Parts.{Parts, view_of}
use Rattle.volume_state.specs.StateLaws.Tied.{IsTied}
use Rattle.volume_state.specs.CallLaws.Handing.{HandsOut, TurnsTo, at_once, more, then_ready}
use Rattle.volume_state.specs.CallLaws.Laws.{TurnsRun}
use Rattle.volume_state.specs.CallLaws.Running.{HasAnswers, IsRunning}
use Rattle.volume_state.proofs.CallLaws.Driven.{steps_driven}
use Rattle.volume_state.proofs.CallLaws.ToClose.{turned_ready}
use Rattle.volume_state.proofs.CallLaws.TurnAnswers.{answers_handed, answers_stay, handed, waits_alone}
use Rattle.volume_state.proofs.CallLaws.TurnSteps.{Came, Rightly, came_by, came_none, turns_more, turns_ready}

-- ---- what is handed out

handed_is : {D : Type 0} (who ticket : ℕ) (reply : Reply) (p new : Parts D) → HandsOut who ticket reply p new
    → new ≡ handed p who ticket reply new.block new.listed.spare
handed_is who ticket reply p new h = λ i. record {
  drive = h.drive i;
  block = new.block;
  stock = h.stock i;
  trail = h.trail i;
  queue = h.queue i;
  listed = record {
    history = h.history i;
    replies = h.replies i;
    marks = h.marks i;
    calls = h.calls i;
    sessions = h.sessions i;
    spare = new.listed.spare;
  };
  reads = h.reads i;
  answered = h.answered i;
  on = h.on i;
  cached = h.cached i;
}

tied_handed : {D : Type 0} (drive : Ghosts D) (fixed : Fixed D) (planned : Items) (p : Parts D) (who ticket : ℕ) (reply : Reply)
    (block : List ℕ) (spare : ℕ) → IsTied drive fixed planned p
    → IsTied drive fixed planned (handed p who ticket reply block spare)
tied_handed drive fixed planned p who ticket reply block spare t = record {
  limits = t.limits;
  mount = t.mount;
  told = t.told;
  queue = t.queue;
  arrived = t.arrived;
  none_due = t.none_due;
  on_is = t.on_is;
  calls = t.calls;
  sessions = t.sessions;
  stock = t.stock;
  ends = t.ends;
  back = t.back;
  grouped = t.grouped;
  files = t.files;
  room = t.room;
  plan = t.plan;
  way = t.way;
  reads = t.reads;
  cached = t.cached;
}

module _ {D : Type 0} (drive : Ghosts D)
    (only_now : (d : D) (image : Cartridge) → drive.commands d < 2 ^ 64 - 1 → drive.left_since d (drive.commands d) image → drive.leaves d image)
    (fixed : Fixed D) (next : Option Moment) (who ticket : ℕ) (old : Parts D) (runs : IsRunning drive fixed next old)
    (waiting : phase who old.listed.marks ≡ waits ticket) where
  -- what a turn comes to
  abbrev Turned : Parts D → Turn → Type 0
  Turned new answer =
      Turns drive.MOST (seen drive old.drive) (seen drive new.drive) (view_of fixed next old) (view_of fixed next new) who ticket answer
      × IsRunning drive fixed next new

  runs_on : (new : Parts D) (answer : Turn) → Rightly drive fixed (view_of fixed next old) (view_of fixed next new) who ticket answer
      → IsTied drive fixed runs.planned new → HasAnswers new → Turned new answer
  runs_on new answer (t, rightly, driven) tied answers = (
    t,
    record {
      planned = runs.planned;
      plan = runs.plan;
      kept = turns_keep_all drive only_now fixed runs.plan drive.MOST (view_of fixed next old) (view_of fixed next new) who ticket answer runs.kept waiting t rightly;
      tied = tied;
      planned_as = runs.planned_as;
      writes = (drains_stay_for_writes (seen drive)).turns drive.MOST old.drive new.drive (view_of fixed next old) (view_of fixed next new) who ticket answer waiting t runs.writes;
      answers = answers;
      closes = turned_ready drive fixed next next runs.plan runs.planned old new t.added runs.closes
          (record { way = runs.tied.way; driven = driven; still = t.step.counts.still; fixed = refl; on = t.step.on })
          t.history;
      allowed = runs.allowed;
    },
  )

  -- the volume between the step, where there is one, and the reply that is handed out
  record IsBetween (mid : Parts D) (added : List Event) : Type 0 where
    came : Came drive fixed (view_of fixed next old) (view_of fixed next mid) added
    none : (r : Reply) → slice_get old.listed.replies ticket ≡ Some (Some r) → added ≡ []
    tied : IsTied drive fixed runs.planned mid
    answers : HasAnswers mid

  hands_to : (mid : Parts D) (added : List Event) (reply : Reply) (block : List ℕ) (spare : ℕ) → IsBetween mid added
      → slice_get mid.listed.replies ticket ≡ Some (Some reply)
      → Turned (handed mid who ticket reply block spare) (the_turns.Ready reply)
  hands_to mid added reply block spare b there =
      let new = handed mid who ticket reply block spare in
      let t = turns_ready drive fixed (view_of fixed next old) (view_of fixed next mid) added b.came new.listed.marks who ticket reply refl refl b.none refl there in
      let still = λ (w : ℕ). sym (ap (phase w) b.came.marks) in
      runs_on new (the_turns.Ready reply) t
      (tied_handed drive fixed runs.planned mid who ticket reply block spare b.tied)
      (answers_handed mid who ticket reply block spare b.answers (sym (still who) ∙ waiting)
      (λ w other. waits_alone drive (view_of fixed next old) runs.kept.order w who ticket (still w ∙ other) waiting))

  hands_out : (mid new : Parts D) (added : List Event) (reply : Reply) → IsBetween mid added → HandsOut who ticket reply mid new
      → Turned new (the_turns.Ready reply)
  hands_out mid new added reply b h =
      subst (λ (p : Parts D). Turned p (the_turns.Ready reply)) (sym (handed_is who ticket reply mid new h))
      (hands_to mid added reply new.block new.listed.spare b h.there)

  turned : (new : Parts D) (answer : Turn) → drive.commands old.drive ≤ 2 ^ 64 - 1 → TurnsTo drive who ticket old new answer → Turned new answer
  turned new all counted (at_once reply h) =
      hands_out old new [] reply
      (record {
        came = came_none drive fixed runs.plan (view_of fixed next old) runs.kept counted;
        none = λ r e. refl;
        tied = runs.tied;
        answers = runs.answers;
      })
      h
  turned new all counted (then_ready added mid reply yet s h) =
      let shows = steps_show drive fixed runs.plan runs.planned next old mid added runs.kept runs.tied s.steps in
      hands_out mid new added reply
      (record {
        came = came_by drive fixed (view_of fixed next old) (view_of fixed next mid) added shows.0
            (steps_driven drive fixed next old mid added s.steps);
        none = λ r e. absurd (let h : None ≡ Some r = same_Some None (Some r) (sym yet ∙ e) in cc);
        tied = shows.1;
        answers = answers_stay old mid runs.answers s.answers shows.0.replies.count shows.0.replies.each shows.0.marks;
      })
      h
  turned new all counted (more added s yet) =
      let shows = steps_show drive fixed runs.plan runs.planned next old new added runs.kept runs.tied s.steps in
      let t = turns_more drive fixed (view_of fixed next old) (view_of fixed next new) added who ticket shows.0
      (steps_driven drive fixed next old new added s.steps) refl refl yet in
      runs_on new the_turns.More t shows.1
      (answers_stay old new runs.answers s.answers shows.0.replies.count shows.0.replies.each shows.0.marks)

-- a turn of a session that waits adds what is promised of it, and the volume runs on
pub turns_run : {D : Type 0} (drive : Ghosts D)
    → ((d : D) (image : Cartridge) → drive.commands d < 2 ^ 64 - 1 → drive.left_since d (drive.commands d) image → drive.leaves d image)
    → TurnsRun drive
turns_run drive only_now fixed next who ticket answer old new runs counted waiting to =
    turned drive only_now fixed next who ticket old runs waiting new answer counted to
