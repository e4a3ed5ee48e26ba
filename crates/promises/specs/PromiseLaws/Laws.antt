-- What each call of a served volume keeps, over any drive.
use Rattle.std.specs.Prelude.{ℕ, ◌≡◌, Option, IfSome}
use Rattle.tape_types.specs.declared.moments.Moment.{Moment}
use Rattle.tape_drive.specs.declared.drive.Drive.{Ghosts}
use Rattle.cartridge_meaning.specs.Mounts.{Mounts}
use Rattle.promises.specs.ServingPromise.Cached.{AreOnTape}
use Rattle.promises.specs.ServingPromise.Ends.{begun}
use Rattle.promises.specs.ServingPromise.Marks.{draining, phase, waits}
use Rattle.promises.specs.ServingPromise.Meanings.{cartridges}
use Rattle.promises.specs.ServingPromise.Served.{Fixed, IsServed, View}
use Rattle.promises.specs.ServingPromise.Steps.{DrainsOnce, Turns}
use Rattle.promises.specs.ServingPromise.Submits.{CanSubmit, Submits}
use Rattle.promises.specs.declared.serving_promise.answers.Drained.{Drained}
use Rattle.promises.specs.declared.serving_promise.answers.Submitted.{Submitted}
use Rattle.promises.specs.declared.serving_promise.answers.Turn.{Turn}
use Rattle.session_script.specs.Sessions.{HasSessions}
use Rattle.promises.specs.CrashLaws.Laws.{CanServe}
use Rattle.promises.specs.OrderLaws.Kept.{seen}
use Rattle.promises.specs.PromiseLaws.Kept.{DrainsRightly, IsKept, IsKeptOn, Plan, SubmitsRightly, TurnsRightly}

-- what is kept is all that is promised, where the blocks that are kept stand on the cartridge that the drive tells
abbrev pub KeptIsPromised : {D : Type 0} → Ghosts D → Type 0
KeptIsPromised {D} drive = (fixed : Fixed D) (plan : Plan drive fixed) (v : View D) → IsKept drive fixed plan v
    → IfSome (drive.held v.drive) (λ c. AreOnTape c v.cached)
    → IsServed cartridges (seen drive v.fixed.first) (seen drive v.drive) v

-- it is kept of a volume of which nothing was asked yet, by the plan that is what stands on the cartridge
abbrev pub VolumesBegin : {D : Type 0} → Ghosts D → Type 0
VolumesBegin {D} drive = (fixed : Fixed D) (next : Option Moment) → HasSessions fixed.script
    → ((can : CanServe drive fixed) → Mounts can.held fixed.mounted)
    → (plan : Plan drive fixed) × IsKept drive fixed plan (begun fixed next)

abbrev pub SubmissionsKeep : {D : Type 0} → Ghosts D → Type 0
SubmissionsKeep {D} drive = (fixed : Fixed D) (plan : Plan drive fixed) (old new : View D) (who nth : ℕ)
    (answer : Submitted) → IsKept drive fixed plan old → CanSubmit old who nth
    → (s : Submits (seen drive old.fixed.first) (seen drive new.drive) old new who nth answer)
    → SubmitsRightly drive fixed plan old new who nth s.added answer → IsKeptOn drive fixed plan old new

abbrev pub TurnsKeep : {D : Type 0} → Ghosts D → Type 0
TurnsKeep {D} drive = (fixed : Fixed D) (plan : Plan drive fixed) (most : ℕ) (old new : View D) (who ticket : ℕ)
    (answer : Turn) → IsKept drive fixed plan old → phase who old.marks ≡ waits ticket
    → (t : Turns most (seen drive old.drive) (seen drive new.drive) old new who ticket answer)
    → TurnsRightly drive fixed old new t.added → IsKept drive fixed plan new

abbrev pub DrainTurnsKeep : {D : Type 0} → Ghosts D → Type 0
DrainTurnsKeep {D} drive = (fixed : Fixed D) (plan : Plan drive fixed) (most : ℕ) (old new : View D) (who : ℕ)
    (answer : Drained) → IsKept drive fixed plan old → phase who old.marks ≡ draining
    → (t : DrainsOnce most (seen drive old.drive) (seen drive new.drive) old new who answer)
    → DrainsRightly drive fixed old new who t.made answer → IsKept drive fixed plan new
