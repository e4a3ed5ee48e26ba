use Rattle.std.proofs.Common.{subst}
use Rattle.image_slots.specs.State.{IsKept}
use Rattle.image_slots.proofs.slots.Slots.get.Goals as goal

pub returns-clause-kept : goal.returns-clause-kept
returns-clause-kept g c = subst (λ v. IsKept g.B.ByteDisk v) c.self.view_is c.self.invariant
