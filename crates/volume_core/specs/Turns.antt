-- What the calls of a volume ask of its parts and its clock, and what they make of them.
use Rattle.std.specs.Prelude.{ℕ, ◌≡◌, Option, Some, IfSome, length}
use Rattle.tape_types.specs.declared.moments.Moment.{Moment}
use Rattle.tape_drive.specs.declared.drive.Drive.{Ghosts}
use Rattle.plain_tree.specs.declared.calls.Call.{Call}
use Rattle.promises.specs.ServingPromise.Served.{Fixed}
use Rattle.promises.specs.ServingPromise.Marks.{places_of}
use Rattle.promises.specs.ServingPromise.Submits.{CanSubmit, call_of}
use Rattle.promises.specs.declared.serving_promise.answers.Drained.{Drained}
use Rattle.promises.specs.declared.serving_promise.answers.Drained.TheVariants as the_drained
use Rattle.promises.specs.declared.serving_promise.answers.Submitted.{Submitted}
use Rattle.promises.specs.declared.serving_promise.answers.Submitted.TheVariants as submitted
use Rattle.volume_state.specs.StateLaws.Parts.{Parts, view_of}
use Rattle.volume_state.specs.CallLaws.Draining.{DrainsTo}
use Rattle.volume_state.specs.CallLaws.Running.{IsRunning}
use Rattle.volume_core.specs.VolumeSteps.Asking.{IsSubmitted}
use Rattle.volume_core.specs.Serving.{next_moment}

-- they are those of a volume that runs
pub record Runs {D : Type 0} (drive : Ghosts D) (p : Parts D) : Type 0 where
  pub fixed : Fixed D
  pub next : Option Moment
  pub runs : IsRunning drive fixed next p

-- so they are, and this is the next call of a session
pub record RunsFor {D : Type 0} (drive : Ghosts D) (who nth : ℕ) (call : Call) (p : Parts D) : Type 0 where
  pub fixed : Fixed D
  pub next : Option Moment
  pub runs : IsRunning drive fixed next p
  pub can : CanSubmit (view_of fixed next p) who nth
  pub is_call : call_of (view_of fixed next p) who nth ≡ Some call

-- ---- the clock

-- what a clock tells: its one moment, and what it gives next
pub record Told : Type 0 where
  pub one : Option Moment
  pub next : Option Moment

abbrev pub told : Option Moment → Option Moment → Told
told one next = record { one = one; next = next }

-- It was asked, and gave this moment. It still gives its one moment, where it has one.
pub record Gives (old new : Told) (at : Moment) : Type 0 where
  pub given : IfSome (next_moment old.one old.next) (λ m. at ≡ m)
  pub still : IfSome old.one (λ m. new.one ≡ Some m)

-- ---- what is made of the parts

-- the clock is asked where the call is placed alone
abbrev pub SubmitsAt : {D : Type 0} (drive : Ghosts D) (who nth : ℕ) (call : Call) (before after : Told)
    (old new : Parts D) → Submitted → Type 0
SubmitsAt drive who nth call before after old new submitted.Drain =
    (after ≡ before) × ((at : Moment) → IsSubmitted drive who nth at old new call submitted.Drain)
SubmitsAt drive who nth call before after old new answer =
    (at : Moment) × Gives before after at × IsSubmitted drive who nth at old new call answer

-- the clock is asked where the write is placed void alone
abbrev pub DrainsAt : {D : Type 0} (drive : Ghosts D) (who : ℕ) (before after : Told) (old new : Parts D)
    → Drained → Type 0
DrainsAt drive who before after old new (the_drained.Fault counts) =
    (at : Moment) × Gives before after at
    × DrainsTo drive who (length (places_of who old.listed.marks)) at old new (the_drained.Fault counts)
DrainsAt drive who before after old new answer =
    (after ≡ before)
    × ((at : Moment) → DrainsTo drive who (length (places_of who old.listed.marks)) at old new answer)
