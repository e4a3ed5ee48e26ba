use Rattle.std.proofs.Common.{length, refl}
use Rattle.std.proofs.lemmas.Option.{slice_get_read}
use Rattle.index_model.proofs.IndexFaults.RisingUids.{begin, end, step}
use Rattle.index_model.proofs.index_faults.uids.uids_ascend.Goals as goal

pub loop-node-init : goal.loop-node-init
loop-node-init c = begin c.args.highest c.args.nodes.now

pub loop-node-preserved : goal.loop-node-preserved
loop-node-preserved c =
    let is = slice_get_read c.args.nodes.now (length c.args.nodes.now) c.loop-node.node-index c.node-item.result refl c.loop-node-test.true c.node-item.is in
    step c.args.highest c.args.nodes.now c.loop-node.last c.loop-node.node-index c.loop-node.invariant c.node-item.result is c.if-uid-last.false c.if-uid-highest.false

pub returns : goal.returns
returns c is = end c.args.highest c.args.nodes.now c.loop-node.last c.loop-node.node-index c.loop-node.invariant c.loop-node-test.false
