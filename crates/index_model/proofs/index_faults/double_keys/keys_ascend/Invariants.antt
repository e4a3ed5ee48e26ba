use Rattle.index_model.proofs.IndexFaults.KeySteps.{Ascends}
use Rattle.index_model.proofs.index_faults.double_keys.keys_ascend.Given as goal

abbrev pub invariant-loop-at : goal.invariant-loop-at
invariant-loop-at l = Ascends l.xattrs l.at
