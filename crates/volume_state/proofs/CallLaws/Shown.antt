-- Each submission shows what is asked of it.
use Rattle.tape_drive.specs.declared.drive.Drive.{Ghosts}
use Rattle.volume_state.specs.CallLaws.SubmitLaws.{SubmissionsShow, changes, puts_off, syncs, tells, voids, waits}
use Rattle.volume_state.proofs.CallLaws.Changed as changed
use Rattle.volume_state.proofs.CallLaws.PutOff as put_off
use Rattle.volume_state.proofs.CallLaws.Synced as synced
use Rattle.volume_state.proofs.CallLaws.Told as told
use Rattle.volume_state.proofs.CallLaws.Voided as voided
use Rattle.volume_state.proofs.CallLaws.Waiting as waiting

-- each submission shows what is asked of it, and leaves the volume tied
pub submissions_show : {D : Type 0} (drive : Ghosts D) → SubmissionsShow drive
submissions_show drive fixed plan planned before after who nth call at answer asked old new s (voids reply v) =
    voided.shown drive fixed plan planned before after who nth call at reply old new s v
submissions_show drive fixed plan planned before after who nth call at answer asked old new s (tells gives v) =
    told.shown drive fixed plan planned before after who nth call at gives old new s v
submissions_show drive fixed plan planned before after who nth call at answer asked old new s (changes v) =
    changed.shown drive fixed plan planned before after who nth call at old new s v
submissions_show drive fixed plan planned before after who nth call at answer asked old new s (syncs is v) =
    synced.shown drive fixed plan planned before after who nth at old new v call is s
submissions_show drive fixed plan planned before after who nth call at answer asked old new s (waits path offset count is v) =
    waiting.shown drive fixed plan planned before after who nth call path offset count at old new s is v
submissions_show drive fixed plan planned before after who nth call at answer asked old new s (puts_off v) =
    put_off.shown drive fixed plan planned before after who nth call at old new s v
