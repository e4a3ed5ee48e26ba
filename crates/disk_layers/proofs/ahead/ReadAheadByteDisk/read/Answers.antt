use Rattle.disk_layers.proofs.Layering.{next_is}
use Rattle.disk_layers.proofs.ahead.ReadAheadByteDisk.read.Goals as goal

pub end-requires : goal.end-requires
end-requires g c =
    next_is g.B.ByteDisk _ _ _ _ (tt, c.args.self.now.disk) (tt, c.serve-served.new.self.disk) c.moment-past.ensures c.serve-served.ensures.stays.commands
    c.serve-served.ensures.looks.runs.later
