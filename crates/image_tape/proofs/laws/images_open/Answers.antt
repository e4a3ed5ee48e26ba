use Rattle.image_tape.proofs.Always.{opens_always}
use Rattle.image_tape.proofs.laws.images_open.Goals as goal

pub returns : goal.returns
returns g c = opens_always g.B.ByteDisk _ _ c.tape.view_is c.tape.invariant (λ t u image le left. g.met.B.ByteDisk.lower _ t u image le left)
