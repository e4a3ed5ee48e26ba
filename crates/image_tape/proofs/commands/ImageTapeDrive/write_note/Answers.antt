use Rattle.image_tape.proofs.Telling.{is_sure_when}
use Rattle.image_tape.proofs.commands.ImageTapeDrive.write_note.Goals as goal

pub returns-clause-settled : goal.returns-clause-settled
returns-clause-settled g c = is_sure_when g.B.ByteDisk c.put_note-end.result _ _ c.self.view_is c.self.invariant c.put_note-end.ensures.noted.settled
