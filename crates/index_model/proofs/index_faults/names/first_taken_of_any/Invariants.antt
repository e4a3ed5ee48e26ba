use Rattle.index_model.proofs.IndexFaults.NameSteps.{IsKept}
use Rattle.index_model.proofs.index_faults.names.first_taken_of_any.Given as goal

abbrev pub invariant-loop-at : goal.invariant-loop-at
invariant-loop-at l = IsKept l.nodes l.seen l.at
