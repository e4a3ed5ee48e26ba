use Rattle.std.proofs.Common.{◌+◌, length}
use Rattle.line_printer.specs.Printing.{TakesFirst}
use Rattle.line_printer.proofs.printer.Printer.put.Given as goal

abbrev pub invariant-loop-rest : goal.invariant-loop-rest
invariant-loop-rest g l = TakesFirst g.K.Sink l.fn.self l.self l.fn.bytes l.rest

abbrev pub decreases-loop-rest : goal.decreases-loop-rest
decreases-loop-rest g l = length l.self.waits + length l.rest
