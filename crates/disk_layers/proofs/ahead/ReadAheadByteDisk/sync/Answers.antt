use Rattle.disk_layers.proofs.Layering.{next_is}
use Rattle.disk_layers.proofs.ahead.ReadAheadByteDisk.sync.Goals as goal

pub end-requires : goal.end-requires
end-requires g c =
    next_is g.B.ByteDisk _ _ _ _ (tt, c.args.self.now.disk) (tt, c.make_sure-synced.new.self.disk) c.moment-past.ensures c.make_sure-synced.ensures.stays.commands
    c.make_sure-synced.ensures.looks.runs.later
