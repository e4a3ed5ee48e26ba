use Rattle.std.proofs.Common.{subst}
use Rattle.line_printer.specs.Printing.{TakesFirst}
use Rattle.line_printer.proofs.Taken.{takes_none, takes_on, takes_sent}
use Rattle.line_printer.proofs.printer.Printer.take_in.Goals as goal

pub loop-line-init : goal.loop-line-init
loop-line-init g c = takes_none g.K.Sink c.args.self.now c.args.line

pub loop-line-preserved : goal.loop-line-preserved
loop-line-preserved g c =
    takes_sent g.K.Sink c.args.self.now c.take_next.new.self c.send.new.self c.args.line c.take_next.new.line
    (takes_on g.K.Sink c.args.self.now c.loop-line.self c.take_next.new.self c.args.line c.loop-line.line c.take_next.new.line c.loop-line.invariant c.take_next.ensures.taken)
    c.send.ensures.over c.send.ensures.lines c.send.ensures.text

pub returns : goal.returns
returns g c =
    subst (TakesFirst g.K.Sink c.args.self.now c.take_next.new.self c.args.line) (c.take_next.ensures.end c.loop-line-test.false)
    (takes_on g.K.Sink c.args.self.now c.loop-line.self c.take_next.new.self c.args.line c.loop-line.line c.take_next.new.line c.loop-line.invariant c.take_next.ensures.taken)
