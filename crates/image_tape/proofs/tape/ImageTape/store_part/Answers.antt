use Rattle.image_tape.proofs.Surely.{kept_command, looked_command}
use Rattle.image_tape.proofs.tape.ImageTape.store_part.Goals as goal

pub invariant_of-self : goal.invariant_of-self
invariant_of-self g c = kept_command g.B.ByteDisk c.sync.result _ c.sync.new.self c.self.invariant c.sync.ensures.held c.sync.ensures.command

pub returns-clause-looks : goal.returns-clause-looks
returns-clause-looks g c = looked_command g.B.ByteDisk c.sync.result _ _ c.sync.new.self c.self.view_is c.sync.ensures.held c.sync.ensures.command
