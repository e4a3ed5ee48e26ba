use Rattle.disk_layers.proofs.Reading.{kept_same}
use Rattle.disk_layers.proofs.ahead.ReadAhead.make_sure.Goals as goal

pub invariant_of-self : goal.invariant_of-self
invariant_of-self g c = kept_same g.B.ByteDisk c.self.inside.disk c.sync.new.self _ _ _ c.self.invariant c.sync.ensures.count c.sync.ensures.held
