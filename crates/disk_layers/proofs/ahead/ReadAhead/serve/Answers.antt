use Rattle.disk_layers.proofs.Reading.{kept}
use Rattle.disk_layers.proofs.ahead.ReadAhead.serve.Goals as goal

pub invariant_of-self : goal.invariant_of-self
invariant_of-self g c = kept g.B.ByteDisk c.self.inside.disk c.read.new.disk _ c.read.new.self _ _ c.self.invariant c.read.ensures.looks.runs.later c.read.ensures.right
