use Rattle.index_model.specs.Keys.{HasKeyTwice}
use Rattle.index_model.specs.IndexFaults.Firsts.{IsNowhereBefore}
use Rattle.index_model.proofs.index_faults.double_keys.first_key_twice.Given as goal

abbrev pub invariant-loop-node : goal.invariant-loop-node
invariant-loop-node l = IsNowhereBefore (HasKeyTwice l.nodes) l.node-index
