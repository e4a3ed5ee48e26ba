use Rattle.index_model.proofs.IndexFaults.ExtentSteps.{IsKept}
use Rattle.index_model.proofs.index_faults.extents.ascend.Given as goal

abbrev pub invariant-loop-extent : goal.invariant-loop-extent
invariant-loop-extent l = IsKept l.extents l.end l.extent-index
