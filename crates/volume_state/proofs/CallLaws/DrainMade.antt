-- What a turn of a session that drains made before the session is told of its fault or rests: nothing, or a step.
use Rattle.std.proofs.Common.{◌≡◌, ◌⊎◌, ◌≤◌, ◌<◌, ◌-◌, ◌^◌, ℕ, List, [], ◌∷◌, ◌++◌, length, map, Option, Some, None, ⊎_elim, append-nil, refl, sym, ap, subst, ◌∙◌, arith}
use Rattle.std.proofs.lemmas.List.{length-map}
use Rattle.tape_types.specs.declared.cartridges.Twin.{Twin}
use Rattle.tape_types.specs.declared.moments.Moment.{Moment}
use Rattle.tape_drive.specs.declared.drive.Drive.{Ghosts}
use Rattle.session_script.specs.declared.logs.Event.{Event}
use Rattle.session_script.specs.declared.logs.Event.TheVariants.{Wants, Queues, Syncs, Synced, Drains, Rests, Served, Worked}
use Rattle.session_script.specs.declared.logs.Reply.{Reply}
use Rattle.head_queue.specs.EventLaws.Trail.{after_all}
use Rattle.head_queue.specs.EventLaws.Waiting as waiting
use Rattle.head_queue.specs.EventLaws.Waiting.{Waiter}
use Rattle.tape_layout.specs.declared.ops.Op.{Op}
use Rattle.promises.specs.ServingPromise.Faults.{kept_for}
use Rattle.promises.specs.ServingPromise.Served.{Fixed, View, headed}
use Rattle.promises.specs.ServingPromise.Steps.{StepsOnce}
use Rattle.promises.specs.ServingPromise.Submits.{standing_ops}
use Rattle.promises.specs.OrderLaws.Kept.{seen}
use Rattle.promises.specs.OrderLaws.Laws.{IsInOrder}
use Rattle.promises.specs.CrashLaws.Changes.{AreDriven}
use Rattle.event_journal.specs.Trails.{kept_by, longest, state}
use Rattle.promises.specs.PromiseLaws.Kept.{IsKept, Plan}
use Rattle.volume_state.specs.PlanLaws.Planned.{Items}
use Rattle.volume_state.specs.StateLaws.Parts.{Parts, view_of}
use Rattle.volume_state.specs.StateLaws.Stepping.{Steps, does, fails, misses, reads, told_fault}
use Rattle.volume_state.specs.StateLaws.Tied.{IsTied}
use Rattle.volume_state.specs.CallLaws.StepLaws.{Stepped}
use Rattle.volume_state.specs.CallLaws.Draining.{IsFull}
use Rattle.volume_state.specs.CallLaws.Handing.{StepsOn}
use Rattle.volume_state.specs.CallLaws.Running.{HasAnswers}
use Rattle.volume_state.proofs.CallLaws.Driven.{steps_driven}
use Rattle.volume_state.proofs.CallLaws.TurnAnswers.{answers_stay}
use Rattle.volume_state.proofs.CallLaws.TurnSteps.{Came, came_by, came_none}

-- what a turn of a drain made before it ends: nothing, or a step
pub record Went {D : Type 0} (drive : Ghosts D) (fixed : Fixed D) (planned : Items) (next : Option Moment) (who : ℕ)
    (old mid : Parts D) (made : List Event) : Type 0 where
  pub came : Came drive fixed (view_of fixed next old) (view_of fixed next mid) made
  pub none : (0 < length (kept_for who old.trail.kept)) ⊎ (standing_ops (view_of fixed next old) ≤ 64) → made ≡ []
  -- where a fault is kept for the session then, nobody was replied to
  pub untold : 1 ≤ length (kept_for who mid.trail.kept) → mid.listed.replies ≡ old.listed.replies
  pub tied : IsTied drive fixed planned mid
  pub answers : HasAnswers mid

-- so many ops stand as the events say
pub standing_count : (standing : List Op) (events : List Event) → map headed standing ≡ waiting.ops (after_all events)
    → length (waiting.ops (after_all events)) ≡ length standing
standing_count standing events same = sym (ap (λ (l : List waiting.Op). length l) same) ∙ length-map standing headed

-- ---- nothing

-- where nothing was made, a drain's turn went so
pub went_nothing : {D : Type 0} (drive : Ghosts D) (fixed : Fixed D) (plan : Plan drive fixed) (planned : Items) (next : Option Moment) (who : ℕ) (old : Parts D)
    → IsKept drive fixed plan (view_of fixed next old) → drive.commands old.drive ≤ 2 ^ 64 - 1 → IsTied drive fixed planned old → HasAnswers old
    → Went drive fixed planned next who old old []
went_nothing drive fixed plan planned next who old kept fits tied answers = record {
  came = came_none drive fixed plan (view_of fixed next old) kept fits;
  none = λ either. refl;
  untold = λ e. refl;
  tied = tied;
  answers = answers;
}

-- ---- a step

told_none : (syncs : List Waiter) (drains : List ℕ) (counts : Twin) (told : List (Option Reply)) → (kept_by syncs drains counts ≡ [] → ⊥)
    → told_fault (longest syncs drains) counts told ≡ told
told_none (s ∷ more) drains counts told some = absurd (some refl)
told_none [] (who ∷ more) counts told some = refl
told_none [] [] counts told some = refl

module _ {D : Type 0} (drive : Ghosts D) (who : ℕ) (old new : Parts D) (none : kept_for who old.trail.kept ≡ [])
    (some : 1 ≤ length (kept_for who new.trail.kept)) where
  none_came : {P : Type 0} → new.trail.kept ≡ old.trail.kept → P
  none_came same = absurd (omega (arith, some, ap (λ (l : List (ℕ × Twin)). length (kept_for who l)) same, ap (λ (l : List Twin). length l) none))

  untold_by : (added : List Event) → Steps drive old new added → new.listed.replies ≡ old.listed.replies
  untold_by all (does op end tickets did) = none_came did.done.kept
  untold_by all (fails op later counts did) =
      did.told.replies ∙ told_none (state old.trail).syncs (state old.trail).drains counts old.listed.replies
      (λ kept_none. none_came (did.told.kept ∙ ap (λ l. old.trail.kept ++ l) kept_none ∙ append-nil old.trail.kept))
  untold_by all (reads ticket place got block did) = none_came did.taken.only.kept
  untold_by all (misses ticket place counts did) = none_came did.missed.only.kept

-- where a step was made, a drain's turn went so
pub went_step : {D : Type 0} (drive : Ghosts D) (fixed : Fixed D) (planned : Items) (next : Option Moment) (who : ℕ) (old new : Parts D) (added : List Event)
    → IsInOrder drive (view_of fixed next old) → HasAnswers old → IsFull who old → StepsOn drive added old new
    → Stepped drive fixed (view_of fixed next old) (view_of fixed next new) added → IsTied drive fixed planned new
    → Went drive fixed planned next who old new added
went_step drive fixed planned next who old new added order answers full on s tied = record {
  came = came_by drive fixed (view_of fixed next old) (view_of fixed next new) added s
      (steps_driven drive fixed next old new added on.steps);
  none = λ either. absurd (⊎_elim
      (λ some. omega (arith, some, ap (λ (l : List Twin). length l) full.none))
      (λ few. omega (arith, few, full.many, standing_count old.stock.layout.ops old.trail.events order.orderly.standing))
      either);
  untold = λ some. untold_by drive who old new full.none some added on.steps;
  tied = tied;
  answers = answers_stay old new answers on.answers s.replies.count s.replies.each s.marks;
}

-- ---- what is said of a view goes on where its drive, its ops, the blocks that are kept and where placement goes on stay

module _ {D : Type 0} (drive : Ghosts D) (v u w : View D) (drive_is : w.drive ≡ u.drive) (on_is : w.on ≡ u.on) (ops_are : w.ops ≡ u.ops) (cached_is : w.cached ≡ u.cached) where
  abbrev moved : View D
  moved = record w { drive = u.drive; on = u.on; ops = u.ops; cached = u.cached }

  moved_is : moved ≡ w
  moved_is = λ i. record w { drive = (sym drive_is) i; on = (sym on_is) i; ops = (sym ops_are) i; cached = (sym cached_is) i }

  step_at : (most : ℕ) (made : List Event) → StepsOnce most (seen drive v.drive) (seen drive u.drive) v u made
      → StepsOnce most (seen drive v.drive) (seen drive u.drive) v moved made
  step_at most made s = record {
    shape = s.shape;
    counts = record {
      still = s.counts.still;
      later = s.counts.later;
      at_least = s.counts.at_least;
      faults = s.counts.faults;
      at_most = s.counts.at_most;
    };
    op_head = s.op_head;
    read_head = s.read_head;
    on_tape = s.on_tape;
    on = s.on;
    cached = s.cached;
  }

  -- one step stays one for a view with the same drive, ops, blocks that are kept and placement
  pub step_on : (most : ℕ) (made : List Event) → StepsOnce most (seen drive v.drive) (seen drive u.drive) v u made
      → StepsOnce most (seen drive v.drive) (seen drive w.drive) v w made
  step_on most made s = subst (λ (x : View D). StepsOnce most (seen drive v.drive) (seen drive x.drive) v x made) moved_is (step_at most made s)

  driven_at : (made : List Event) → AreDriven drive v u made → AreDriven drive v moved made
  driven_at [] d = d
  driven_at (Wants ticket place ∷ answers) d = d
  driven_at (Queues place ∷ answers) d = d
  driven_at (Syncs ticket ∷ answers) d = d
  driven_at (Synced ticket ∷ answers) d = d
  driven_at (Drains session ∷ answers) d = d
  driven_at (Rests session ∷ answers) d = d
  driven_at (Served ticket place fault ∷ answers) d = d
  driven_at (Worked place None ∷ answers) d = d
  driven_at (Worked place (Some told) ∷ answers) d = d

  -- what the head did stays so for a view with the same drive and ops
  pub driven_on : (made : List Event) → AreDriven drive v u made → AreDriven drive v w made
  driven_on made d = subst (λ (x : View D). AreDriven drive v x made) moved_is (driven_at made d)
