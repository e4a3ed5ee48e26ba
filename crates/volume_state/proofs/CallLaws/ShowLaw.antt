-- Each step shows all that is asked of a turn, and leaves the volume tied.
use Rattle.tape_drive.specs.declared.drive.Drive.{Ghosts}
use Rattle.volume_state.specs.StateLaws.Stepping.{does as did, fails as failed, misses as missed, reads as read}
use Rattle.volume_state.specs.CallLaws.StepLaws.{StepsShow}
use Rattle.volume_state.proofs.CallLaws.Does.{does}
use Rattle.volume_state.proofs.CallLaws.Fails.{fails}
use Rattle.volume_state.proofs.CallLaws.Gathers.{reads}
use Rattle.volume_state.proofs.CallLaws.Misses.{misses}

-- each step shows all that is asked of a turn, and leaves the volume tied
pub steps_show : {D : Type 0} (drive : Ghosts D) → StepsShow drive
steps_show drive fixed plan planned next old new all kept tied (did op end tickets h) = does drive fixed plan planned next old new op end tickets kept tied h
steps_show drive fixed plan planned next old new all kept tied (failed op later counts h) = fails drive fixed plan planned next old new op later counts kept tied h
steps_show drive fixed plan planned next old new all kept tied (read ticket place got block h) = reads drive fixed plan planned next old new ticket place got block kept tied h
steps_show drive fixed plan planned next old new all kept tied (missed ticket place counts h) = misses drive fixed plan planned next old new ticket place counts kept tied h
