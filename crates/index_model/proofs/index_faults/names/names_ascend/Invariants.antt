use Rattle.index_model.proofs.IndexFaults.RisingNames.{IsKept}
use Rattle.index_model.proofs.index_faults.names.names_ascend.Given as goal

abbrev pub invariant-loop-at : goal.invariant-loop-at
invariant-loop-at l = IsKept l.nodes l.latest.items l.at
