use Rattle.disk_layers.specs.Held.{moment}
use Rattle.disk_layers.proofs.Holding.{looks_none}
use Rattle.disk_layers.proofs.held.HeldWrites.write_out.Goals as goal

pub returns-then-is_empty-clause-looks : goal.returns-then-is_empty-clause-looks
returns-then-is_empty-clause-looks g c = looks_none g.B.ByteDisk (λ b d is. g.met.B.ByteDisk.bytes b d is) tt (moment c.args.self.now)
