-- What each call of a volume that runs adds to it, and that it runs on.
use Rattle.std.specs.Prelude.{ℕ, ◌≡◌, ◌≤◌, ◌-◌, ◌^◌, List, Option, Some, IfSome, length}
use Rattle.tape_types.specs.Cartridges.{IsLimits}
use Rattle.tape_types.specs.declared.moments.Moment.{Moment}
use Rattle.tape_drive.specs.declared.drive.Drive.{Ghosts}
use Rattle.plain_tree.specs.declared.calls.Call.{Call}
use Rattle.session_script.specs.Sessions.{HasSessions}
use Rattle.tape_layout.specs.declared.ops.Op.{Op}
use Rattle.cartridge_meaning.specs.Carried.{carried}
use Rattle.cartridge_meaning.specs.Meaning.{Reads}
use Rattle.cartridge_meaning.specs.Mounts.{IsMount, Mounts}
use Rattle.file_tree.specs.Valid.{IsGood}
use Rattle.promises.specs.ServingPromise.Ends.{Starts}
use Rattle.promises.specs.ServingPromise.Marks.{draining, phase, places_of, waits}
use Rattle.promises.specs.ServingPromise.Meanings.{cartridges}
use Rattle.promises.specs.ServingPromise.Served.{Fixed, IsServed}
use Rattle.promises.specs.ServingPromise.Steps.{DrainsOnce, Turns}
use Rattle.promises.specs.ServingPromise.Submits as model
use Rattle.promises.specs.ServingPromise.Submits.{CanSubmit, Submits, call_of, is_put_off}
use Rattle.promises.specs.declared.serving_promise.answers.Drained.{Drained}
use Rattle.promises.specs.declared.serving_promise.answers.Drained.TheVariants as the_drained
use Rattle.promises.specs.declared.serving_promise.answers.Submitted.{Submitted}
use Rattle.promises.specs.declared.serving_promise.answers.Submitted.TheVariants as submitted
use Rattle.promises.specs.declared.serving_promise.answers.Turn.{Turn}
use Rattle.promises.specs.CrashLaws.May.{IsAllowed}
use Rattle.promises.specs.OrderLaws.Kept.{seen}
use Rattle.promises.specs.OrderLaws.Sides.{AsksOneMoment, HasOneMoment}
use Rattle.volume_state.specs.StateLaws.Parts.{Parts, view_of}
use Rattle.volume_state.specs.CallLaws.SubmitLaws.{Made}
use Rattle.volume_state.specs.CallLaws.StartLaws.{IsFresh}
use Rattle.volume_state.specs.CallLaws.Draining.{DrainsTo}
use Rattle.volume_state.specs.CallLaws.Handing.{TurnsTo}
use Rattle.volume_state.specs.CallLaws.Running.{IsRunning}

-- what runs is all that is promised
abbrev pub RunningIsPromised : {D : Type 0} → Ghosts D → Type 0
RunningIsPromised {D} drive = (fixed : Fixed D) (next : Option Moment) (p : Parts D) → IsRunning drive fixed next p
    → IsServed cartridges (seen drive fixed.first) (seen drive p.drive) (view_of fixed next p)

-- A volume that was mounted runs, and it starts as is promised; its tree is one as which the cartridge reads.
pub record BeginsRunning {D : Type 0} (drive : Ghosts D) (fixed : Fixed D) (next : Option Moment) (p : Parts D)
    : Type 0 where
  pub starts : Starts cartridges (seen drive fixed.first) fixed.mounted fixed.first fixed.script fixed.since next
      fixed.moment (view_of fixed next p)
  pub runs : IsRunning drive fixed next p

abbrev pub VolumesRun : {D : Type 0} → Ghosts D → Type 0
VolumesRun {D} drive = (fixed : Fixed D) (next : Option Moment) (p : Parts D) → HasSessions fixed.script
    → IsLimits (drive.limits fixed.first) → IsMount (drive.limits fixed.first) fixed.mounted
    → IfSome (drive.held fixed.first) (λ c. Mounts c fixed.mounted) → IsFresh drive fixed p
    → (IfSome (drive.held fixed.first) (λ c. Reads c (carried fixed.mounted.index) fixed.tree fixed.mounted.newest)
    → IsAllowed drive fixed)
    → BeginsRunning drive fixed next p

-- ---- submissions

-- A submission with the moment that the clock gave where it was asked; no answer of a read that waits is touched.
pub record CanMake {D : Type 0} (fixed : Fixed D) (before after : Option Moment) (who nth : ℕ) (call : Call)
    (at : Moment) (answer : Submitted) (old new : Parts D) : Type 0 where
  pub good : IsGood old.stock.tree
  pub can : CanSubmit (view_of fixed before old) who nth
  pub is_call : call_of (view_of fixed before old) who nth ≡ Some call
  pub put_off : model.PutsOff (is_put_off (view_of fixed before old) (Some call)) answer
  pub moment : IfSome before (λ m. at ≡ m)
  pub one_moment : HasOneMoment (view_of fixed before old)
  pub unasked : answer ≡ submitted.Drain → after ≡ before
  pub answered : new.answered ≡ old.answered

abbrev pub SubmissionsRun : {D : Type 0} → Ghosts D → Type 0
SubmissionsRun {D} drive = (fixed : Fixed D) (before after : Option Moment) (who nth : ℕ) (call : Call) (at : Moment)
    (answer : Submitted) (asked : List Op) (old new : Parts D) → IsRunning drive fixed before old
    → CanMake fixed before after who nth call at answer old new → Made drive who nth call at old new answer asked
    → Submits (seen drive fixed.first) (seen drive new.drive) (view_of fixed before old) (view_of fixed after new)
    who nth answer
    × IsRunning drive fixed after new

-- ---- turns

abbrev pub TurnsRun : {D : Type 0} → Ghosts D → Type 0
TurnsRun {D} drive = (fixed : Fixed D) (next : Option Moment) (who ticket : ℕ) (answer : Turn) (old new : Parts D)
    → IsRunning drive fixed next old → drive.commands old.drive ≤ 2 ^ 64 - 1 → phase who old.listed.marks ≡ waits ticket
    → TurnsTo drive who ticket old new answer
    → Turns drive.MOST (seen drive old.drive) (seen drive new.drive) (view_of fixed next old) (view_of fixed next new)
    who ticket answer
    × IsRunning drive fixed next new

-- the clock is asked where the session's write is placed alone
abbrev pub IsAfter : Option Moment → Option Moment → Drained → Type 0
IsAfter before after (the_drained.Fault counts) = Unit {0}
IsAfter before after _ = after ≡ before

abbrev pub DrainTurnsRun : {D : Type 0} → Ghosts D → Type 0
DrainTurnsRun {D} drive = (fixed : Fixed D) (before after : Option Moment) (who : ℕ) (at : Moment) (answer : Drained)
    (old new : Parts D) → IsRunning drive fixed before old → drive.commands old.drive ≤ 2 ^ 64 - 1
    → phase who old.listed.marks ≡ draining
    → IfSome before (λ m. at ≡ m) → AsksOneMoment (view_of fixed before old) answer
    → IsAfter before after answer
    → DrainsTo drive who (length (places_of who old.listed.marks)) at old new answer
    → DrainsOnce drive.MOST (seen drive old.drive) (seen drive new.drive) (view_of fixed before old)
    (view_of fixed after new) who answer
    × IsRunning drive fixed after new
