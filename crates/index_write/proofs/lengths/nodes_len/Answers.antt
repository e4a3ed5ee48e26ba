use Rattle.index_write.proofs.SizeLemmas.{one_node_more}
use Rattle.index_write.proofs.lengths.nodes_len.Goals as goal

pub loop-node-preserved : goal.loop-node-preserved
loop-node-preserved c = one_node_more c.args.nodes.now c.loop-node.node-index c.node-item.result c.loop-node.sum _ _ c.loop-node-test.true c.node-item.is c.loop-node.invariant c.node_len.ensures c.saturating_add-sum.ensures
