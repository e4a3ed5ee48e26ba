use Rattle.disk_layers.proofs.Layering.{next_is}
use Rattle.disk_layers.proofs.ahead.ReadAheadByteDisk.length.Goals as goal

pub end-requires : goal.end-requires
end-requires g c =
    next_is g.B.ByteDisk _ _ _ _ (tt, c.args.self.now.disk) (tt, c.measure-found.new.self.disk) c.moment-past.ensures c.measure-found.ensures.stays.commands
    c.measure-found.ensures.looks.runs.later
