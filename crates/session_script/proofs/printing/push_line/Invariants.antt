use Rattle.std.proofs.Common.{◌≡◌, ◌++◌, length}
use Rattle.session_script.proofs.printing.push_line.Given as goal

abbrev pub invariant-loop : goal.invariant-loop
invariant-loop l = l.text.items ++ l.line ≡ l.fn.text.items ++ l.fn.line

abbrev pub decreases-loop : goal.decreases-loop
decreases-loop l = length l.line
