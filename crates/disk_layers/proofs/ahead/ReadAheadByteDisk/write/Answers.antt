use Rattle.disk_layers.proofs.Layering.{next_is}
use Rattle.disk_layers.proofs.ahead.ReadAheadByteDisk.write.Goals as goal

pub end-requires : goal.end-requires
end-requires g c =
    next_is g.B.ByteDisk _ _ _ _ (tt, c.args.self.now.disk) (tt, c.overwrite-written.new.self.disk) c.moment-past.ensures c.overwrite-written.ensures.stays.commands
    c.overwrite-written.ensures.runs.later
