-- What runs is all that is promised.
use Rattle.tape_drive.specs.declared.drive.Drive.{Ghosts}
use Rattle.promises.proofs.PromiseLaws.Joined.{kept_is_promised}
use Rattle.volume_state.specs.StateLaws.Parts.{view_of}
use Rattle.volume_state.specs.CallLaws.Laws.{RunningIsPromised}
use Rattle.volume_state.proofs.CallLaws.Uses.{on_tape}

-- what runs is all that is promised
pub running_is_promised : {D : Type 0} (drive : Ghosts D) → RunningIsPromised drive
running_is_promised drive fixed next p runs = kept_is_promised drive fixed runs.plan (view_of fixed next p) runs.kept
    (on_tape drive fixed runs.planned p runs.tied runs.kept.order.orderly.untold)
