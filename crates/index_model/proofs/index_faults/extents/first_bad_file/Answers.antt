use Rattle.std.proofs.Common.{length, refl, subst}
use Rattle.std.proofs.lemmas.Option.{slice_get_read}
use Rattle.index_model.specs.IndexFaults.Firsts.{TellsNode}
use Rattle.index_model.proofs.IndexFaults.FileSteps.{end, step, told}
use Rattle.index_model.proofs.index_faults.extents.first_bad_file.Goals as goal

pub returns-in-Some : goal.returns-in-Some
returns-in-Some c =
    let is = slice_get_read c.args.nodes.now (length c.args.nodes.now) c.loop-node.node-index c.node-item.result refl c.loop-node-test.true c.node-item.is in
    told c.args.nodes.now c.loop-node.node-index c.node-item.result is c.loop-node.invariant c.in-Some.fault
    (subst (TellsNode c.node-item.result.uid c.node-item.result.kind) c.in-Some.is c.in_ok-fault.ensures)

pub loop-node-preserved : goal.loop-node-preserved
loop-node-preserved c =
    let is = slice_get_read c.args.nodes.now (length c.args.nodes.now) c.loop-node.node-index c.node-item.result refl c.loop-node-test.true c.node-item.is in
    step c.args.nodes.now c.loop-node.node-index c.node-item.result is c.loop-node.invariant
    (subst (TellsNode c.node-item.result.uid c.node-item.result.kind) c.in_default.is c.in_ok-fault.ensures)

pub returns : goal.returns
returns c = end c.args.nodes.now c.loop-node.node-index c.loop-node.invariant c.loop-node-test.false
