use Rattle.image_tape.proofs.Telling.{is_sure_at}
use Rattle.image_tape.proofs.commands.ImageTapeDrive.vcr.Goals as goal

pub returns-clause-settled : goal.returns-clause-settled
returns-clause-settled g c = is_sure_at g.B.ByteDisk _ _ c.self.view_is c.self.invariant c.in_default.ensures.settled
