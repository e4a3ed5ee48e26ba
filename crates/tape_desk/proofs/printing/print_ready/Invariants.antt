use Rattle.std.proofs.Common.{◌≡◌, ◌≤◌, ◌-◌, true, length}
use Rattle.line_printer.specs.Printing.{IsOver}
use Rattle.tape_desk.specs.Printed.{IsTakenTo}
use Rattle.tape_desk.proofs.printing.print_ready.Given as goal

abbrev pub invariant-loop-printer : goal.invariant-loop-printer
invariant-loop-printer g l = IsOver l.fn.printer l.printer × IsTakenTo g.K.Sink l.volume.history l.volume.replies l.printer
    × (l.fn.printer.lines ≤ l.printer.lines) × (l.fn.printer.broken ≡ true → l.printer.broken ≡ true)

abbrev pub decreases-loop-printer : goal.decreases-loop-printer
decreases-loop-printer g l = length l.volume.replies - l.printer.lines
