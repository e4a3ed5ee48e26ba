-- That a volume stays safe over each command of its close.
use Rattle.std.proofs.Common.{◌≡◌, ◌⊎◌, ℕ, ◌+◌, ◌≤◌, Bool, List, [], ◌∷◌, ◌++◌, map, length, Option, Some, None, refl}
use Rattle.std.proofs.Common.{sym, ap, subst, ◌∙◌}
use Rattle.std.proofs.lemmas.List.{map-append}
use Rattle.std.proofs.lemmas.Option.{same_Some}
use Rattle.tape_types.specs.declared.cartridges.Cartridge.{Cartridge}
use Rattle.tape_types.specs.declared.cartridges.Note.{Note}
use Rattle.tape_types.specs.declared.cartridges.Part.{Part}
use Rattle.tape_types.specs.declared.cartridges.Twin.{Twin}
use Rattle.coherency.specs.Notes.{HasValues}
use Rattle.coherency.specs.declared.Coherency.{Coherency}
use Rattle.tape_drive.specs.Commands.{IsNoted}
use Rattle.tape_drive.specs.Crashes.{IsSettled, IsSure, NothingNew, WithinNote}
use Rattle.tape_drive.specs.declared.drive.Drive.{Ghosts}
use Rattle.index_model.specs.declared.indexes.Index.{Index}
use Rattle.tape_types.specs.declared.cartridges.Place.{Place}
use Rattle.tape_layout.specs.declared.ops.Op.{Op}
use Rattle.tape_layout.specs.declared.ops.Op.TheVariants as the_ops
use Rattle.cartridge_meaning.specs.Carried.{carried}
use Rattle.cartridge_meaning.specs.Notes.{TellsOfLast}
use Rattle.head_core.specs.Steps.{IsOpStep}
use Rattle.head_core.specs.declared.work.StepDone.{StepDone}
use Rattle.head_core.specs.declared.work.StepDone.TheVariants as outcome
use Rattle.head_queue.specs.EventLaws.Trail.{after_all}
use Rattle.space_laws.specs.Space.{Rules, Space, index, ops_of, with_index}
use Rattle.promises.specs.ImageLaws.Events.{IsDone, IsFailed, Within}
use Rattle.promises.specs.ImageLaws.Kept.{HasNothingPending, IsHeld, IsStep, IsSureAfter, Kept, Wait}
use Rattle.promises.specs.ImageLaws.Laws.{IsKept, IsServing, State}
use Rattle.promises.specs.ImageLaws.Made.{CoveredIndex, Job, Made, after, makes}
use Rattle.promises.specs.ImageLaws.Moments.{moment_of}
use Rattle.promises.specs.ImageLaws.Plans.{IsCloseDue, IsDue, IsPlanned, close_jobs, index_jobs}
use Rattle.promises.proofs.ImageLaws.Longer.{after_append}
use Rattle.promises.proofs.ImageLaws.Stated.{admissions_keep, steps_keep}
use Rattle.promises.specs.ServingPromise.Crash.{SurvivesCrashes}
use Rattle.promises.specs.ServingPromise.Meanings.{cartridges}
use Rattle.promises.specs.ServingPromise.Served.{View, tree_after}
use Rattle.promises.proofs.ServingPromise.FineLaw.{fine_cartridges_stand}
use Rattle.promises.specs.CrashLaws.Changes.{IsWell}
use Rattle.promises.specs.CrashLaws.Safe.{IsSafe, Planned, seen_by, trees_of, volume_of, waits_after, with_jobs}
use Rattle.promises.proofs.CrashLaws.Admits.{index_ops, op_of}
use Rattle.promises.proofs.CrashLaws.Bridge.{heads_do_ops}
use Rattle.promises.proofs.CrashLaws.Waits.{all_has}
use Rattle.volume_state.specs.ClosingLaws.Closing.{HasSpace, IsAtRest, IsClosing, state_at}
use Rattle.volume_state.specs.ClosingLaws.Laws.{ClosesAreSafe, close_ops}

module _ {D : Type 0} (drive : Ghosts D) where
  begins : (planned : Planned) (space : Space) (v : View D) → IsSafe drive planned space v → waits_after v.events ≡ []
      → IsClosing drive v planned v.ops v.drive × HasSpace v planned space
  begins planned space v safe none = (
    record {
      made = safe.made;
      jobs = safe.jobs;
      done = (after_all v.events).done;
      held = safe.held;
      told = safe.told;
      ops_are = safe.ops;
      plan = safe.plan;
      kept = subst
          (λ (waits : List Wait). Kept (volume_of planned.labels v) (trees_of v) safe.made v.fixed.since
          (moment_of drive v.drive safe.held) (after_all v.events).done safe.jobs waits v.acks)
          none safe.serving.kept;
    },
    subst (λ (m : Made). IsPlanned (trees_of v) m space) safe.plan safe.serving.planned,
  )

  -- ---- what is admitted

  module _ (planned : Planned) (space : Space) (v : View D) (ops : List Op) (d : D)
      (c : IsClosing drive v planned ops d) (has : HasSpace v planned space) where
    abbrev state : State
    state = state_at v planned c.made c.done c.jobs

    serving : IsServing drive state space d c.held
    serving = record {
      kept = c.kept;
      planned = subst (λ (m : Made). IsPlanned (trees_of v) m space) (sym c.plan) has;
    }

    -- with jobs of these ops more
    more_ops : (more : List Job) (asked : List Op) → map op_of more ≡ asked → map op_of (c.jobs ++ more) ≡ ops ++ asked
    more_ops more asked are = map-append op_of c.jobs more ∙ ap (λ (l : List Op). l ++ map op_of more) c.ops_are
        ∙ ap (λ (l : List Op). ops ++ l) are

    more_planned : (more : List Job) → after c.made (c.jobs ++ more) ≡ after planned.made more
    more_planned more = after_append c.jobs more c.made ∙ ap (λ (m : Made). after m more) c.plan

    with_more : (more : List Job) (asked : List Op) → map op_of more ≡ asked
        → IsKept drive (state_at v planned c.made c.done (c.jobs ++ more)) d c.held
        → IsClosing drive v (with_jobs more planned) (ops ++ asked) d
    with_more more asked are kept = record {
      made = c.made;
      jobs = c.jobs ++ more;
      done = c.done;
      held = c.held;
      told = c.told;
      ops_are = more_ops more asked are;
      plan = more_planned more;
      kept = kept;
    }

    indexed : (rules : Rules) (on : Bool) (text : List ℕ) (e : CoveredIndex)
        → IsDue (volume_of planned.labels v) (trees_of v) planned.made space text e → 1 ≤ rules.block_size
        → IsClosing drive v (with_jobs (index_jobs rules space text e) planned)
        (ops ++ ops_of rules on space (index text)) d
        × HasSpace v (with_jobs (index_jobs rules space text e) planned) (with_index rules text space)
        × ((with_jobs (index_jobs rules space text e) planned).made.base.ahead ≡ None)
    indexed rules on text e due size =
        let more = index_jobs rules space text e in
        let due_here = subst (λ (m : Made). IsDue (volume_of planned.labels v) (trees_of v) m space text e)
        (sym c.plan) due in
        let admitted = (admissions_keep drive).indexed state space d c.held rules text e serving due_here size in (
          with_more more (ops_of rules on space (index text)) (index_ops rules space text e) admitted.kept,
          subst (λ (m : Made). IsPlanned (trees_of v) m (with_index rules text space)) (more_planned more)
              admitted.planned,
          sym (ap (λ (m : Made). m.base.ahead) (more_planned more))
              ∙ (admissions_keep drive).settled state space d c.held rules text e serving due_here size,
        )

    closed : (rules : Rules) (text : List ℕ) (on_ip : Index)
        → IsCloseDue (volume_of planned.labels v) (trees_of v) planned.made space text on_ip
        → planned.made.base.ahead ≡ None → 1 ≤ rules.block_size
        → IsClosing drive v (with_jobs (close_jobs rules space text) planned) (ops ++ close_ops rules space text) d
    closed rules text on_ip due none size =
        let due_here = subst (λ (m : Made). IsCloseDue (volume_of planned.labels v) (trees_of v) m space text on_ip)
        (sym c.plan) due in
        let none_here = ap (λ (m : Made). m.base.ahead) c.plan ∙ none in
        with_more (close_jobs rules space text) (close_ops rules space text) refl
        ((admissions_keep drive).closed state space d c.held rules text on_ip serving due_here none_here size)

  -- ---- ops

  module _ (planned : Planned) (v : View D) (op : Op) (later : List Op) (old new : D) (made : Made) (done : ℕ)
      (held : Cartridge) (told : drive.held old ≡ Some held) where
    -- the first op, however it ended, is that of the first job
    step_within : (end : StepDone) (job : Job) (now : Cartridge) → op ≡ job.op → IsOpStep drive op end old new
        → drive.held new ≡ Some now
        → IsStep (Within job.op held) (moment_of drive old held) (moment_of drive new now)
    step_within end job now its step told_now =
        subst (λ (o : Op). IsStep (Within o held) (moment_of drive old held) (moment_of drive new now)) its
        ((heads_do_ops drive).step op end old new held now step told told_now)

    done_with : (end : StepDone) → IsOpStep drive op end old new → IsWell end → (jobs : List Job)
        → map op_of jobs ≡ op ∷ later → after made jobs ≡ planned.made
        → IsKept drive (state_at v planned made done jobs) old held → IsClosing drive v planned later new
    done_with end step well [] are plan kept = absurd (let no : [] ≡ op ∷ later = are in cc)
    done_with end step well (job ∷ jobs) are plan kept =
        let its : op ≡ job.op = cc in
        let rest : map op_of jobs ≡ later = cc in
        let it = step.told held told in
        let did = (heads_do_ops drive).done op end old new held it.0 step well told it.1 in
        record {
          made = makes job made;
          jobs = jobs;
          done = done + 1;
          held = it.0;
          told = it.1;
          ops_are = rest;
          plan = plan;
          kept = (steps_keep drive).done (state_at v planned made done []) job jobs old new held it.0 kept
              (subst (λ (o : Op). IsDone o held it.0) its did.0)
              (step_within end job it.0 its step it.1)
              (subst (λ (o : Op). IsSureAfter o (moment_of drive new it.0)) its did.1);
        }

    failed_with : (counts : Twin) → IsOpStep drive op (outcome.Failed counts) old new → (jobs : List Job)
        → map op_of jobs ≡ op ∷ later → after made jobs ≡ planned.made
        → IsKept drive (state_at v planned made done jobs) old held → IsClosing drive v planned (op ∷ later) new
    failed_with counts step [] are plan kept = absurd (let no : [] ≡ op ∷ later = are in cc)
    failed_with counts step (job ∷ jobs) are plan kept =
        let its : op ≡ job.op = cc in
        let it = step.told held told in
        let did = (heads_do_ops drive).failed op counts old new held it.0 step told it.1 in
        record {
          made = made;
          jobs = job ∷ jobs;
          done = done;
          held = it.0;
          told = it.1;
          ops_are = are;
          plan = plan;
          kept = (steps_keep drive).failed (state_at v planned made done []) job jobs old new held it.0 kept
              (subst (λ (o : Op). IsFailed o held it.0) its did)
              (step_within (outcome.Failed counts) job it.0 its step it.1);
        }

  -- ---- looks and notes

  looked : (planned : Planned) (v : View D) (ops : List Op) (old new : D) → IsClosing drive v planned ops old
      → drive.held new ≡ drive.held old
      → ((c : Cartridge) → drive.held old ≡ Some c → IsStep NothingNew (moment_of drive old c) (moment_of drive new c))
      → IsClosing drive v planned ops new
  looked planned v ops old new c same step = record {
    made = c.made;
    jobs = c.jobs;
    done = c.done;
    held = c.held;
    told = same ∙ c.told;
    ops_are = c.ops_are;
    plan = c.plan;
    kept = (steps_keep drive).read (state_at v planned c.made c.done c.jobs) old new c.held c.kept (step c.held c.told);
  }

  -- behind a flush nothing is pending
  settled : (place : Place) (old new : D) → IsOpStep drive (the_ops.Flush place) outcome.Flushed old new
      → IsAtRest drive new
  settled place old new step held told =
      subst (λ (h : Option Cartridge). IsSure h (drive.leaves new)) told step.made.sure

  noted : (planned : Planned) (v : View D) (part : Part) (note : Note) (values : Coherency) (old new : D)
      (before now : Cartridge) → IsClosing drive v planned [] old → IsAtRest drive old
      → drive.held old ≡ Some before → drive.held new ≡ Some now
      → HasValues note values → values.vcr ≡ before.vcr → TellsOfLast before planned.labels.ip part values
      → IsStep (WithinNote part note) (moment_of drive old before) (moment_of drive new now)
      → (now ≡ before) ⊎ IsNoted part note before now → IsClosing drive v planned [] new
  noted planned v part note values old new before now c rest told_old told_new has vcr tells step either =
      let x = state_at v planned c.made c.done c.jobs in
      let kept = subst (λ (held : Cartridge). IsKept drive x old held)
      (same_Some c.held before (sym c.told ∙ told_old)) c.kept in
      record {
        made = c.made;
        jobs = c.jobs;
        done = c.done;
        held = now;
        told = told_new;
        ops_are = c.ops_are;
        plan = c.plan;
        kept = (steps_keep drive).noted x old new before now part note values kept (rest before told_old) has vcr tells
            step either;
      }

  rests : (part : Part) (note : Note) (old new : D) (before now : Cartridge) → IsAtRest drive old
      → drive.held old ≡ Some before → drive.held new ≡ Some now
      → IsStep (WithinNote part note) (moment_of drive old before) (moment_of drive new now)
      → IsNoted part note before now → IsSettled (Some now) (drive.leaves new) → IsAtRest drive new
  rests part note old new before now rest told_old told_new step is settled held told =
      subst (λ (c : Cartridge). HasNothingPending (moment_of drive new c)) (same_Some now held (sym told_new ∙ told))
      ((steps_keep drive).sure old new before now part note (rest before told_old) step is settled)

  -- ---- what that gives

  survives : (planned : Planned) (v : View D) (ops : List Op) (d : D) → IsClosing drive v planned ops d
      → SurvivesCrashes cartridges (carried v.fixed.mounted.index) (tree_after v) (length v.history) v.acks
      (seen_by drive d).leavings v.fixed.since
  survives planned v ops d c =
      let volume = volume_of planned.labels v in
      let trees = trees_of v in
      record {
        always = λ image left. (fine_cartridges_stand volume trees 0 image (c.kept.always image left)).0;
        sound = λ image left. (fine_cartridges_stand volume trees 0 image (c.kept.always image left)).1;
        acknowledged = λ ack has short image left.
            let held = all_has (IsHeld volume trees c.made.base (moment_of drive d c.held)) v.acks ack c.kept.acked
            has in
            (fine_cartridges_stand volume trees ack.place image (held.held short image left)).0;
      }

  -- a volume stays safe over each command of its close
  pub closes_are_safe : ClosesAreSafe drive
  closes_are_safe = record {
    begins = begins;
    indexed = λ planned space v ops d rules on text e c has due size.
        indexed planned space v ops d c has rules on text e due size;
    closed = λ planned space v ops d rules text on_ip c has due none size.
        closed planned space v ops d c has rules text on_ip due none size;
    done = λ planned v op later end old new c step well.
        done_with planned v op later old new c.made c.done c.held c.told end step well c.jobs c.ops_are c.plan c.kept;
    failed = λ planned v op later counts old new c step.
        failed_with planned v op later old new c.made c.done c.held c.told counts step c.jobs c.ops_are c.plan c.kept;
    looked = looked;
    settled = settled;
    noted = noted;
    rests = rests;
    survives = survives;
  }
