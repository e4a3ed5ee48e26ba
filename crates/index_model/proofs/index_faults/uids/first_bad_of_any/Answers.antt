use Rattle.std.proofs.Common.{length, refl}
use Rattle.std.proofs.lemmas.Option.{slice_get_read}
use Rattle.index_model.proofs.IndexFaults.Keys.{was_free, was_had}
use Rattle.index_model.proofs.IndexFaults.UidSteps.{out_here, taken_here, step, end}
use Rattle.index_model.proofs.index_faults.uids.first_bad_of_any.Goals as goal

pub returns-then-is_out : goal.returns-then-is_out
returns-then-is_out c =
    let is = slice_get_read c.args.nodes.now (length c.args.nodes.now) c.loop-node.node-index c.node-item.result refl c.loop-node-test.true c.node-item.is in
    out_here c.args.highest c.args.nodes.now c.loop-node.seen c.loop-node.node-index c.loop-node.invariant c.node-item.result is (c.is_out.ensures.yes c.if-is_out.true)

pub returns-then-not-is_new : goal.returns-then-not-is_new
returns-then-not-is_new c =
    let is = slice_get_read c.args.nodes.now (length c.args.nodes.now) c.loop-node.node-index c.node-item.result refl c.loop-node-test.true c.node-item.is in
    taken_here c.args.highest c.args.nodes.now c.loop-node.seen c.loop-node.node-index c.loop-node.invariant c.node-item.result is
    (was_had _ _ c.if-not-is_new.true c.in_ok-is_new.ensures.added)

pub loop-node-preserved : goal.loop-node-preserved
loop-node-preserved c =
    let is = slice_get_read c.args.nodes.now (length c.args.nodes.now) c.loop-node.node-index c.node-item.result refl c.loop-node-test.true c.node-item.is in
    let within = c.is_out.ensures.within c.if-is_out.false in
    step c.args.highest c.args.nodes.now c.loop-node.seen c.loop-node.node-index c.loop-node.invariant c.node-item.result is c.insert.new.self
    within.0 within.1 (was_free _ _ c.if-not-is_new.false c.in_ok-is_new.ensures.added) c.in_ok-is_new.ensures.updates

pub returns : goal.returns
returns c = end c.args.highest c.args.nodes.now c.loop-node.seen c.loop-node.node-index c.loop-node.invariant c.loop-node-test.false
