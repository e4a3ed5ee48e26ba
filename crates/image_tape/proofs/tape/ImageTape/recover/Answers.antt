use Rattle.image_tape.proofs.Surely.{kept_recovered, looked_recovered}
use Rattle.image_tape.proofs.tape.ImageTape.recover.Goals as goal

pub invariant_of-self : goal.invariant_of-self
invariant_of-self g c = kept_recovered g.B.ByteDisk c.recover.result _ c.recover.new.self c.self.invariant c.recover.ensures

pub returns-clause-looks : goal.returns-clause-looks
returns-clause-looks g c = looked_recovered g.B.ByteDisk c.recover.result _ _ c.recover.new.self c.self.view_is c.recover.ensures
