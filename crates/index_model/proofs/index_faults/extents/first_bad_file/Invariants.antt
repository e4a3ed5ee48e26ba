use Rattle.index_model.specs.Extents.{IsBadFile}
use Rattle.index_model.specs.IndexFaults.Firsts.{IsNowhereBefore}
use Rattle.index_model.proofs.index_faults.extents.first_bad_file.Given as goal

abbrev pub invariant-loop-node : goal.invariant-loop-node
invariant-loop-node l = IsNowhereBefore (IsBadFile l.nodes) l.node-index
