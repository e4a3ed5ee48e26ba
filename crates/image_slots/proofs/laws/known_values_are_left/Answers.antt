use Rattle.image_slots.proofs.Upkeep.{known_left}
use Rattle.image_slots.proofs.laws.known_values_are_left.Goals as goal

pub returns : goal.returns
returns g c = λ s kept steady d is. known_left g.B.ByteDisk s kept steady d is
