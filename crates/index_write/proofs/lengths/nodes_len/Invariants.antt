use Rattle.std.proofs.Common.{◌≡◌, take}
use Rattle.index_write.specs.Sizes.{bounded, nodes_sum}
use Rattle.index_write.proofs.lengths.nodes_len.Given as goal

abbrev pub invariant-loop-node : goal.invariant-loop-node
invariant-loop-node l = l.sum ≡ bounded (nodes_sum (take l.node-index l.nodes))
