use Rattle.image_tape.proofs.Surely.{kept_command, looked_command}
use Rattle.image_tape.proofs.tape.ImageTape.measure.Goals as goal

pub invariant_of-self : goal.invariant_of-self
invariant_of-self g c = kept_command g.B.ByteDisk c.length.result _ c.length.new.self c.self.invariant c.length.ensures.held c.length.ensures.command

pub returns-clause-looks : goal.returns-clause-looks
returns-clause-looks g c = looked_command g.B.ByteDisk c.length.result _ _ c.length.new.self c.self.view_is c.length.ensures.held c.length.ensures.command
