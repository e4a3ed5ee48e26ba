use Rattle.volume_core.specs.Commands.{EndsWith}
use Rattle.volume_core.specs.Doing.{lasts_in}
use Rattle.volume_core.proofs.MayLemmas.{may_do, may_write}
use Rattle.volume_core.proofs.commands.end_with.Goals as goal

pub do_ops-requires-clause-may : goal.do_ops-requires-clause-may
do_ops-requires-clause-may g c =
    may_do g.D.Drive c.args.stock.now.layout.ops (lasts_in c.args.last) c.args.head.now.drive c.requires.may

pub write_notes_if-requires : goal.write_notes_if-requires
write_notes_if-requires g c = record {
  may = may_write g.D.Drive c.args.stock.now.layout.ops (lasts_in c.args.last) c.args.head.now.drive
      c.do_ops.new.head.drive c.requires.may c.in-Ok.ensures;
}

pub returns-in-Err : goal.returns-in-Err
returns-in-Err g c =
    EndsWith.in_ops c.in-Err.counts c.args.head.now.drive c.do_ops.new.head.drive c.in-Err.ensures

pub returns-in-Ok : goal.returns-in-Ok
returns-in-Ok g c =
    EndsWith.in_notes c.args.head.now.drive c.do_ops.new.head.drive c.write_notes_if.new.head.drive
    c.write_notes_if.result c.in-Ok.ensures c.write_notes_if.ensures
