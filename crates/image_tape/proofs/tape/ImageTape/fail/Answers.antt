use Rattle.image_tape.proofs.Heads.{nowhere}
use Rattle.image_tape.proofs.Telling.{early_of, kept_head}
use Rattle.image_tape.proofs.tape.ImageTape.fail.Goals as goal

pub invariant_of-self : goal.invariant_of-self
invariant_of-self g c = kept_head g.B.ByteDisk _ _ _ _ c.self.invariant (early_of g.B.ByteDisk _ _ _ c.self.view_is c.requires) (nowhere _)
