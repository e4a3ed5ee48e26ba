use Rattle.commands.specs.BasicCommands.Runs.{written}
use Rattle.commands.proofs.BasicCommands.ListClauses.{lines_of, part_failed}
use Rattle.commands.proofs.basic_commands.lists.write_found.Goals as goal

pub returns-in-Err : goal.returns-in-Err
returns-in-Err g c =
    part_failed c.args.all (written g.K.Sink c.args.out.now c.write.new.self) (g.K.Sink.written c.write_tree.new.out) (g.K.Sink.faults c.write_tree.new.out) c.args.found.now
    c.in-Err-NoMemory.ensures.cause.later c.in-Err.ensures.cause.failed
    (lines_of c.args.all c.args.found.now _ _ _ c.in-Err-NoMemory.field-0-is c.in-Err-NoMemory.ensures.cut_short) c.in-Err.ensures.err
