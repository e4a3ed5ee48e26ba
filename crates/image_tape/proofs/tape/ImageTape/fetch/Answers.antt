use Rattle.image_tape.proofs.Surely.{kept_command, looked_command}
use Rattle.image_tape.proofs.tape.ImageTape.fetch.Goals as goal

pub invariant_of-self : goal.invariant_of-self
invariant_of-self g c = kept_command g.B.ByteDisk c.read.result _ c.read.new.self c.self.invariant c.read.ensures.held c.read.ensures.command

pub returns-clause-looks : goal.returns-clause-looks
returns-clause-looks g c = looked_command g.B.ByteDisk c.read.result _ _ c.read.new.self c.self.view_is c.read.ensures.held c.read.ensures.command
