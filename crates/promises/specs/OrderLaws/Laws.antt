-- What the calls of a volume keep, over any drive.
use Rattle.std.specs.Prelude.{◌≡◌, ℕ, Option}
use Rattle.tape_types.specs.declared.moments.Moment.{Moment}
use Rattle.tape_drive.specs.declared.drive.Drive.{Ghosts}
use Rattle.session_script.specs.Sessions.{HasSessions}
use Rattle.promises.specs.ServingPromise.Ends.{begun}
use Rattle.promises.specs.ServingPromise.Marks.{draining, phase, waits}
use Rattle.promises.specs.ServingPromise.Served.{Fixed, View}
use Rattle.promises.specs.ServingPromise.Steps.{DrainsOnce, Turns}
use Rattle.promises.specs.ServingPromise.Submits.{CanSubmit, Submits}
use Rattle.promises.specs.declared.serving_promise.answers.Drained.{Drained}
use Rattle.promises.specs.declared.serving_promise.answers.Submitted.{Submitted}
use Rattle.promises.specs.declared.serving_promise.answers.Turn.{Turn}
use Rattle.promises.specs.OrderLaws.Kept.{IsKeptOrder, seen}
use Rattle.promises.specs.OrderLaws.Phases.{ArePlain, NothingIsLeft}
use Rattle.promises.specs.OrderLaws.Sides.{DrainsInOrder, SubmitsInOrder, TurnsInOrder}

-- a volume over this drive is served in order
abbrev pub IsInOrder : {D : Type 0} → Ghosts D → View D → Type 0
IsInOrder drive v = IsKeptOrder (seen drive v.fixed.first) (seen drive v.drive) v

-- a volume of which nothing was asked yet
abbrev pub VolumesBeginInOrder : {D : Type 0} → Ghosts D → Type 0
VolumesBeginInOrder {D} drive = (fixed : Fixed D) (next : Option Moment) → HasSessions fixed.script
    → IsInOrder drive (begun fixed next)

-- a submission keeps the order
abbrev pub SubmissionsKeepOrder : {D : Type 0} → Ghosts D → Type 0
SubmissionsKeepOrder {D} drive = (old new : View D) (who nth : ℕ) (answer : Submitted)
    → IsInOrder drive old → CanSubmit old who nth
    → (added : Submits (seen drive old.fixed.first) (seen drive new.drive) old new who nth answer)
    → SubmitsInOrder old new added.added answer
    → IsInOrder drive new

-- so does a turn of a session that waits
abbrev pub TurnsKeepOrder : {D : Type 0} → Ghosts D → Type 0
TurnsKeepOrder {D} drive = (most : ℕ) (old new : View D) (who ticket : ℕ) (answer : Turn)
    → IsInOrder drive old → phase who old.marks ≡ waits ticket
    → (turn : Turns most (seen drive old.drive) (seen drive new.drive) old new who ticket answer)
    → TurnsInOrder (seen drive old.drive) (seen drive new.drive) old new turn.added
    → IsInOrder drive new

-- and a turn of a session that drains
abbrev pub DrainTurnsKeepOrder : {D : Type 0} → Ghosts D → Type 0
DrainTurnsKeepOrder {D} drive = (most : ℕ) (old new : View D) (who : ℕ) (answer : Drained)
    → IsInOrder drive old → phase who old.marks ≡ draining
    → (turn : DrainsOnce most (seen drive old.drive) (seen drive new.drive) old new who answer)
    → DrainsInOrder (seen drive old.drive) (seen drive new.drive) old new who turn.made answer
    → IsInOrder drive new

-- in a volume that is served in order the phases of each session are what its marks say in plain words
abbrev pub PhasesArePlain : {D : Type 0} → Ghosts D → Type 0
PhasesArePlain {D} drive = (v : View D) → IsInOrder drive v → (who : ℕ) → ArePlain who v.marks

-- and nothing waits exactly where each reply was handed out, and nobody drains
abbrev pub NothingIsLeftWhereNothingWaits : {D : Type 0} → Ghosts D → Type 0
NothingIsLeftWhereNothingWaits {D} drive = (v : View D) → IsInOrder drive v → NothingIsLeft v
