use Rattle.index_model.proofs.IndexFaults.RisingUids.{IsKept}
use Rattle.index_model.proofs.index_faults.uids.uids_ascend.Given as goal

abbrev pub invariant-loop-node : goal.invariant-loop-node
invariant-loop-node l = IsKept l.highest l.nodes l.last l.node-index
