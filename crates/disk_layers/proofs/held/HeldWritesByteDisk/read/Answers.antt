use Rattle.disk_layers.specs.Held.{moment}
use Rattle.disk_layers.proofs.Layering.{next_is}
use Rattle.disk_layers.proofs.held.HeldWritesByteDisk.read.Goals as goal

pub end-requires : goal.end-requires
end-requires g c =
    next_is g.B.ByteDisk _ _ _ _ (moment c.args.self.now) (moment c.serve-served.new.self) c.moment-past.ensures c.serve-served.ensures.stays.commands
    c.serve-served.ensures.looks.runs.later
