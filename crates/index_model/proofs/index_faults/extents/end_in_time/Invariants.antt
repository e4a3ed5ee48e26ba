use Rattle.std.proofs.Common.{ℕ, ◌<◌, get_or}
use Rattle.index_model.specs.declared.nodes.RawExtent.{RawExtent}
use Rattle.index_model.specs.IndexFaults.Crossings.{EndsInTime}
use Rattle.index_model.proofs.index_faults.extents.end_in_time.Given as goal

abbrev pub invariant-loop-extent : goal.invariant-loop-extent
invariant-loop-extent l = (k : ℕ) (d : RawExtent) → k < l.extent-index → EndsInTime (get_or l.extents k d)
