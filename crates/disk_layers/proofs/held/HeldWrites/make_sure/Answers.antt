use Rattle.std.proofs.Common.{Ok}
use Rattle.disk_layers.specs.Held.{moment}
use Rattle.disk_layers.proofs.Holding.{looks_behind}
use Rattle.disk_layers.proofs.held.HeldWrites.make_sure.Goals as goal

pub returns-in-Ok-clause-looks : goal.returns-in-Ok-clause-looks
returns-in-Ok-clause-looks g c =
    looks_behind g.B.ByteDisk (λ b d is. g.met.B.ByteDisk.bytes b d is) (Ok tt) c.sync_inside.result (moment c.args.self.now) (moment c.write_out.new.self) (moment c.sync_inside.new.self)
    c.in-Ok.ensures.looks c.sync_inside.ensures.looks
