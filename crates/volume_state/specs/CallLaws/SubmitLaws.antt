-- What each submission shows of a served volume.
use Rattle.std.specs.Prelude.{ℕ, ◌≡◌, List, [], ◌∷◌, Option, Some, IfSome, length}
use Rattle.tape_types.specs.declared.moments.Moment.{Moment}
use Rattle.plain_tree.specs.declared.calls.Answer.{Answer}
use Rattle.plain_tree.specs.declared.calls.Call.{Call}
use Rattle.plain_tree.specs.declared.calls.Call.TheVariants as calls
use Rattle.session_script.specs.declared.logs.Reply.{Reply}
use Rattle.session_script.specs.declared.logs.Reply.TheVariants as the_replies
use Rattle.tape_drive.specs.declared.drive.Drive.{Ghosts}
use Rattle.tape_layout.specs.declared.ops.Op.{Op}
use Rattle.promises.specs.ServingPromise.Served.{Fixed}
use Rattle.promises.specs.ServingPromise.Submits as model
use Rattle.promises.specs.ServingPromise.Submits.{CanSubmit, Submits, call_of, is_put_off}
use Rattle.promises.specs.declared.serving_promise.answers.Submitted.{Submitted}
use Rattle.promises.specs.declared.serving_promise.answers.Submitted.TheVariants as submitted
use Rattle.promises.specs.OrderLaws.Kept.{seen}
use Rattle.promises.specs.OrderLaws.Sides.{HasOneMoment}
use Rattle.promises.specs.PromiseLaws.Kept.{IsKept, Plan, SubmitsRightly}
use Rattle.file_tree.specs.Valid.{IsGood}
use Rattle.plain_tree.specs.declared.calls.Answer.TheVariants as the_answers
use Rattle.volume_state.specs.PlanLaws.Planned.{Items, with_ops}
use Rattle.volume_state.specs.StateLaws.Parts.{Parts, view_of}
use Rattle.volume_state.specs.StateLaws.Placing.{Answers, Changes, PutsOff, Syncs, Voids, Waits}
use Rattle.volume_state.specs.StateLaws.Tied.{IsPlannedAs, IsTied}

-- where no op stands then a sync is answered at once, and else it waits
abbrev pub synced_answer : ℕ → List Op → Submitted
synced_answer here [] = submitted.Ready (the_replies.Answer the_answers.Synced)
synced_answer here (op ∷ later) = submitted.Wait here

-- What was made of the parts, with what is answered, and the ops that were added.
pub data Made {D : Type 0} (drive : Ghosts D) (who nth : ℕ) (call : Call) (at : Moment) (old new : Parts D)
    : Submitted → List Op → Type 0 where
  voids : (reply : Reply) → Voids who nth call at reply old new
      → Made drive who nth call at old new (submitted.Ready reply) []
  tells : (told : Answer) → Answers who nth call at told old new
      → Made drive who nth call at old new (submitted.Ready (the_replies.Answer told)) []
  changes : (c : Changes who nth call at old new)
      → Made drive who nth call at old new (submitted.Ready (the_replies.Answer the_answers.Done)) c.asked
  syncs : call ≡ calls.Sync → (s : Syncs drive who nth at old new)
      → Made drive who nth call at old new (synced_answer (length old.listed.history) new.stock.layout.ops) s.asked
  waits : (path : List (List ℕ)) (offset count : ℕ) → call ≡ calls.Read path offset count
      → Waits who nth path offset count at old new
      → Made drive who nth call at old new (submitted.Wait (length old.listed.history)) []
  puts_off : PutsOff who old new → Made drive who nth call at old new submitted.Drain []

-- A submission of a volume that is kept and tied, with the moment that the clock gave where it was asked.
pub record IsSubmission {D : Type 0} (drive : Ghosts D) (fixed : Fixed D) (plan : Plan drive fixed) (planned : Items)
    (before after : Option Moment) (who nth : ℕ) (call : Call) (at : Moment) (answer : Submitted) (old new : Parts D)
    : Type 0 where
  pub kept : IsKept drive fixed plan (view_of fixed before old)
  pub tied : IsTied drive fixed planned old
  pub planned_as : IsPlannedAs drive fixed plan planned
  pub good : IsGood old.stock.tree
  pub can : CanSubmit (view_of fixed before old) who nth
  pub is_call : call_of (view_of fixed before old) who nth ≡ Some call
  pub put_off : model.PutsOff (is_put_off (view_of fixed before old) (Some call)) answer
  pub moment : IfSome before (λ m. at ≡ m)
  pub one_moment : HasOneMoment (view_of fixed before old)
  pub unasked : answer ≡ submitted.Drain → after ≡ before

-- All that is asked of it, and that it leaves the volume tied.
pub record Shown {D : Type 0} (drive : Ghosts D) (fixed : Fixed D) (plan : Plan drive fixed) (planned : Items)
    (before after : Option Moment) (who nth : ℕ) (answer : Submitted) (asked : List Op) (old new : Parts D)
    : Type 0 where
  pub submits : Submits (seen drive fixed.first) (seen drive new.drive) (view_of fixed before old)
      (view_of fixed after new) who nth answer
  pub rightly : SubmitsRightly drive fixed plan (view_of fixed before old) (view_of fixed after new) who nth
      submits.added answer
  pub tied : IsTied drive fixed (with_ops asked planned) new

abbrev pub SubmissionsShow : {D : Type 0} → Ghosts D → Type 0
SubmissionsShow {D} drive = (fixed : Fixed D) (plan : Plan drive fixed) (planned : Items) (before after : Option Moment)
    (who nth : ℕ) (call : Call) (at : Moment) (answer : Submitted) (asked : List Op) (old new : Parts D)
    → IsSubmission drive fixed plan planned before after who nth call at answer old new
    → Made drive who nth call at old new answer asked
    → Shown drive fixed plan planned before after who nth answer asked old new
