use Rattle.disk_layers.specs.Held.{moment}
use Rattle.disk_layers.proofs.Layering.{next_is}
use Rattle.disk_layers.proofs.held.HeldWritesByteDisk.length.Goals as goal

pub end-requires : goal.end-requires
end-requires g c =
    next_is g.B.ByteDisk _ _ _ _ (moment c.args.self.now) (moment c.measure-found.new.self) c.moment-past.ensures c.measure-found.ensures.stays.commands
    c.measure-found.ensures.looks.runs.later
