use Rattle.std.proofs.Common.{◌≡◌, ◌≤◌, ◌++◌, length, drop, reverse}
use Rattle.file_tree.proofs.places.push_run.Given as goal

abbrev pub invariant-loop-left : goal.invariant-loop-left
invariant-loop-left l = (l.left ≤ length l.run) × (l.numbers.items ≡ l.initial.numbers.items ++ reverse (drop l.left l.run))

abbrev pub decreases-loop-left : goal.decreases-loop-left
decreases-loop-left l = l.left
