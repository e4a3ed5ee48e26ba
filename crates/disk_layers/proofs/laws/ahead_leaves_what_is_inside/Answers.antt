use Rattle.own_count.specs.Laws.{told_since}
use Rattle.disk_layers.specs.Ahead.{leaves_of}
use Rattle.disk_layers.specs.Layers.{commands_of, since_of}
use Rattle.disk_layers.proofs.laws.ahead_leaves_what_is_inside.Goals as goal

pub returns-clause-now : goal.returns-clause-now
returns-clause-now g c = λ image left. left

pub returns-clause-since : goal.returns-clause-since
returns-clause-since g c = λ t image short left.
    told_since (commands_of g.B.ByteDisk) (leaves_of g.B.ByteDisk) (since_of g.B.ByteDisk) c.args.disk.now.past (tt, c.args.disk.now.disk) t image short left
