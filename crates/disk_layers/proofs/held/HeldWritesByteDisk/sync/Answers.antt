use Rattle.disk_layers.specs.Held.{moment}
use Rattle.disk_layers.proofs.Layering.{next_is}
use Rattle.disk_layers.proofs.held.HeldWritesByteDisk.sync.Goals as goal

pub end-requires : goal.end-requires
end-requires g c =
    next_is g.B.ByteDisk _ _ _ _ (moment c.args.self.now) (moment c.make_sure-synced.new.self) c.moment-past.ensures c.make_sure-synced.ensures.stays.commands
    c.make_sure-synced.ensures.looks.runs.later
