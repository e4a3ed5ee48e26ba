use Rattle.index_model.proofs.IndexFaults.KeySteps.{IsKept}
use Rattle.index_model.proofs.index_faults.double_keys.has_any_twice.Given as goal

abbrev pub invariant-loop-at : goal.invariant-loop-at
invariant-loop-at l = IsKept l.xattrs l.seen l.at
