use Rattle.std.proofs.Common.{◌+◌, length}
use Rattle.line_printer.specs.Printing.{TakesFirst}
use Rattle.line_printer.proofs.printer.Printer.take_in.Given as goal

abbrev pub invariant-loop-line : goal.invariant-loop-line
invariant-loop-line g l = TakesFirst g.K.Sink l.fn.self l.self l.fn.line l.line

abbrev pub decreases-loop-line : goal.decreases-loop-line
decreases-loop-line g l = length l.self.waits + length l.line
