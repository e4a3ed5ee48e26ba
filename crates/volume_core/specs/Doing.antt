-- What the commands of a close need, one after the other.
use Rattle.std.specs.Prelude.{ℕ, ◌≡◌, ◌≤◌, List, All, Some, Result, Ok, Err}
use Rattle.tape_types.specs.declared.cartridges.Cartridge.{Cartridge}
use Rattle.tape_types.specs.declared.cartridges.Twin.{Twin}
use Rattle.tape_drive.specs.declared.drive.Drive.{Ghosts}
use Rattle.tape_layout.specs.Ops.{HasRoom}
use Rattle.tape_layout.specs.declared.ops.Op.{Op}
use Rattle.head_core.specs.Steps.{IsOpStep}
use Rattle.head_core.specs.declared.work.StepDone.{StepDone}
use Rattle.head_core.specs.declared.work.StepDone.TheVariants as outcome
use Rattle.promises.specs.CrashLaws.Changes.{IsWell}
use Rattle.volume_state.specs.PlanLaws.Planned.{IsOnWay, Items}
use Rattle.volume_core.specs.Commands.{Lasts}
use Rattle.volume_core.specs.declared.notes.LastIndexes.{LastIndexes}

abbrev pub lasts_in : LastIndexes → Lasts
lasts_in l = record { uuid = l.uuid; generation = l.generation; on_ip = l.on_ip; on_dp = l.on_dp }

-- The ops can be done one after the other: each has room, and where the drive tells a cartridge, that is on the way to
-- what is planned.
pub record CanDoAll {D : Type 0} (drive : Ghosts D) (ops : List Op) (d : D) : Type 0 where
  pub planned : Items
  pub size : ℕ
  pub most : size ≤ 1048576
  pub room : All (HasRoom (drive.limits d) size) ops
  pub way : (c : Cartridge) → drive.held d ≡ Some c → IsOnWay planned ops c

-- the first op was done, and the others stand, or it failed
abbrev pub IsOneDone : {D : Type 0} → Ghosts D → Op → (later left : List Op) → D → D → Result Unit Twin → Type 0
IsOneDone drive op later left old new (Ok done) =
    (end : StepDone) × IsOpStep drive op end old new × IsWell end × (left ≡ later)
IsOneDone drive op later left old new (Err counts) = IsOpStep drive op (outcome.Failed counts) old new
