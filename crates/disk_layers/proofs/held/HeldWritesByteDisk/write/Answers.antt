use Rattle.disk_layers.specs.Held.{moment}
use Rattle.disk_layers.proofs.Layering.{next_is}
use Rattle.disk_layers.proofs.held.HeldWritesByteDisk.write.Goals as goal

pub end-requires : goal.end-requires
end-requires g c =
    next_is g.B.ByteDisk _ _ _ _ (moment c.args.self.now) (moment c.put-written.new.self) c.moment-past.ensures c.put-written.ensures.stays.commands
    c.put-written.ensures.puts.runs.later
