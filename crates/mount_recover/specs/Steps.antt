-- What the steps of a mount answer.
use Rattle.std.specs.Prelude.{ℕ, ◌*◌, ◌^◌, ◌-◌, ◌≤◌, ◌≡◌, Some, IfSome, Result, IfOk, IfErr}
use Rattle.tape_types.specs.declared.cartridges.Cartridge.{Cartridge}
use Rattle.tape_types.specs.Cartridges.{FitsLimits, IsLimits}
use Rattle.tape_drive.specs.Looks.{Looks}
use Rattle.tape_drive.specs.declared.drive.Drive.{Ghosts}
use Rattle.cartridge_meaning.specs.Faults.{MountFault}
use Rattle.cartridge_meaning.specs.declared.errors.MountErr.{MountErr}
use Rattle.cartridge_meaning.specs.declared.errors.MountErr.TheVariants as errors
use Rattle.mount_recover.specs.Labels.{HasCounts}
use Rattle.mount_recover.specs.declared.starts.Start.{Start}

-- A cartridge is refused with the first check that fails; a failed drive and refused memory tell nothing of it.
abbrev pub Blames : MountErr → Cartridge → Type 0
Blames (errors.Drive counts) c = Unit {0}
Blames errors.NoMemory c = Unit {0}
Blames e c = MountFault c e

-- a failed drive, or refused memory
abbrev pub IsFree : MountErr → Cartridge → Type 0
IsFree (errors.Drive counts) c = Unit {0}
IsFree errors.NoMemory c = Unit {0}
IsFree e c = ⊥

-- how a drive was when a mount began, which has only looked at its cartridge since
pub record IsSince {D : Type 0} (drive : Ghosts D) (start : Start) (now : D) : Type 0 where
  pub faults : start.faults ≤ drive.faults now
  pub limits : drive.limits now ≡ start.limits
  pub range : IsLimits start.limits
  pub fits : IfSome (drive.held now) (FitsLimits start.limits)
  pub commands : drive.commands now ≤ 2 ^ 64 - 1

-- What a step of a mount answers: what it finds of the cartridge, and what holds of it whether or not the drive tells;
-- or why it refuses. It takes so many commands at most, which only read.
pub record IsStep {D T : Type 0} (drive : Ghosts D) (start : Start) (most : ℕ) (old new : D)
    (Finds : T → Cartridge → Type 0) (Holds : T → Type 0) (Refuses : MountErr → Cartridge → Type 0)
    (result : Result T MountErr) : Type 0 where
  pub found : IfOk result (λ x. (c : Cartridge) → drive.held old ≡ Some c → Finds x c)
  pub any : IfOk result Holds
  pub refused : IfErr result (λ e. (c : Cartridge) → drive.held old ≡ Some c → Refuses e c)
  pub counts : HasCounts start.faults (drive.faults new) result
  pub looks : Looks drive (most * drive.MOST) old new
  pub since : IsSince drive start new

-- The same, with a bound on the count of commands that goes by what the drive tells.
pub record IsStepBy {D T : Type 0} (drive : Ghosts D) (start : Start) (most : ℕ) (By : Cartridge → ℕ → Type 0)
    (old new : D)
    (Finds : T → Cartridge → Type 0) (Holds : T → Type 0) (Refuses : MountErr → Cartridge → Type 0)
    (result : Result T MountErr) : Type 0 where
  pub count : ℕ
  pub step : IsStep drive start count old new Finds Holds Refuses result
  pub most_is : count ≤ most
  pub by : (c : Cartridge) → drive.held old ≡ Some c → By c count
