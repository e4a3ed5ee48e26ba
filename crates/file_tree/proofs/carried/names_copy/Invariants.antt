use Rattle.std.proofs.Common.{◌≡◌, ◌++◌, drop}
use Rattle.file_tree.proofs.carried.names_copy.Given as goal

abbrev pub invariant-loop-at : goal.invariant-loop-at
invariant-loop-at l = l.copy ++ drop l.at l.names ≡ l.names
