use Rattle.image_tape.proofs.Fitting.{held_fits}
use Rattle.image_tape.proofs.commands.ImageTapeDrive.limits.Goals as goal

pub returns-clause-fits : goal.returns-clause-fits
returns-clause-fits g c = held_fits g.B.ByteDisk _ _ c.limits.result c.self.view_is c.self.invariant c.limits.ensures
