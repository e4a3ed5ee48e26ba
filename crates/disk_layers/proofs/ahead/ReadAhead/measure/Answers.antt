use Rattle.disk_layers.proofs.Reading.{kept_same}
use Rattle.disk_layers.proofs.ahead.ReadAhead.measure.Goals as goal

pub invariant_of-self : goal.invariant_of-self
invariant_of-self g c = kept_same g.B.ByteDisk c.self.inside.disk c.length.new.self _ _ _ c.self.invariant c.length.ensures.count c.length.ensures.held
