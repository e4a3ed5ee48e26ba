use Rattle.index_model.proofs.IndexFaults.UidSteps.{IsKept}
use Rattle.index_model.proofs.index_faults.uids.first_bad_of_any.Given as goal

abbrev pub invariant-loop-node : goal.invariant-loop-node
invariant-loop-node l = IsKept l.highest l.nodes l.seen l.node-index
