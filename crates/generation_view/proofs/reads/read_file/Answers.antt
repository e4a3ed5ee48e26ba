use Rattle.generation_view.proofs.RangeReads.{plan_room, plan_there, range_answered}
use Rattle.generation_view.proofs.reads.read_file.Goals as goal

pub read_pieces-requires-clause-room : goal.read_pieces-requires-clause-room
read_pieces-requires-clause-room g c =
    plan_room c.args.tree.now c.args.file c.args.offset c.args.count c.in-Ok.pieces c.in-Ok.ensures (g.D.Drive.held c.args.drive.now) (g.D.Drive.limits c.args.drive.now) c.requires.can

pub read_pieces-requires-clause-there : goal.read_pieces-requires-clause-there
read_pieces-requires-clause-there g c =
    plan_there c.args.tree.now c.args.file c.args.offset c.args.count c.in-Ok.pieces c.in-Ok.ensures (g.D.Drive.held c.args.drive.now) (g.D.Drive.limits c.args.drive.now) c.requires.can

pub returns-in-Ok : goal.returns-in-Ok
returns-in-Ok g c = λ path stands free.
    range_answered c.args.tree.now c.args.file c.args.offset c.args.count c.in-Ok.pieces c.in-Ok.ensures path stands free g.D.Drive c.args.drive.now c.read_pieces.new.drive _
    c.read_pieces.ensures
