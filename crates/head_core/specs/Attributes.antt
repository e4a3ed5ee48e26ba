-- What a command on an attribute of the medium leaves (LTFS 2.4 on medium auxiliary memory).
use Rattle.std.specs.Prelude.{ℕ, ◌≤◌, ◌≡◌, Option, None, Result, Ok, Err, OnOk}
use Rattle.tape_types.specs.declared.cartridges.Place.{Place}
use Rattle.tape_types.specs.declared.cartridges.Twin.{Twin}
use Rattle.tape_types.specs.Counts.{Rose}
use Rattle.tape_drive.specs.Crashes.{IsSettled}
use Rattle.tape_drive.specs.declared.drive.Drive.{Ghosts}
use Rattle.head_core.specs.Steps.{IsCounted}

-- a failure tells the count of faults as it was and as it is, and it rose
abbrev pub TellsFaults : {T : Type 0} → (before now : ℕ) → Result T Twin → Type 0
TellsFaults before now (Ok _) = Unit {0}
TellsFaults before now (Err counts) = (counts.before ≡ before) × (counts.after ≡ now) × Rose before now

-- the head stays, and has to be located again after a failure
abbrev pub head_kept : {T : Type 0} → Result T Twin → Option Place → Option Place
head_kept (Ok _) head = head
head_kept (Err counts) head = None

-- One command on an attribute, whatever it does to it. Where it succeeds, no earlier volume change reference and no
-- earlier attribute comes back.
pub record IsAttributeCommand {D T : Type 0} (drive : Ghosts D) (result : Result T Twin) (old new : D) : Type 0 where
  pub untold : drive.held old ≡ None → drive.held new ≡ None
  pub head : drive.head new ≡ head_kept result (drive.head old)
  pub limits : drive.limits new ≡ drive.limits old
  pub commands : IsCounted 1 drive.MOST (drive.commands old) (drive.commands new)
  pub faults_later : drive.faults old ≤ drive.faults new
  pub faults : TellsFaults (drive.faults old) (drive.faults new) result
  pub settled : OnOk result (IsSettled (drive.held new) (drive.leaves new))
