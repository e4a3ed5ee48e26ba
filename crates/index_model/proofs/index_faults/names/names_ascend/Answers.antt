use Rattle.std.proofs.Common.{◌<◌, length, refl, arith}
use Rattle.std.proofs.lemmas.Option.{slice_get_read}
use Rattle.index_model.proofs.IndexFaults.RisingNames.{begin, end, next_at, step}
use Rattle.index_model.proofs.index_faults.names.names_ascend.Goals as goal

pub loop-at-init : goal.loop-at-init
loop-at-init c = begin c.args.nodes.now c.in_ok-latest.latest.items c.in_ok-latest.ensures

pub loop-at-preserved : goal.loop-at-preserved
loop-at-preserved c =
    let inside : c.loop-at.at < length c.args.nodes.now = omega arith in
    let node = c.index-nodes-at.result in
    let is = slice_get_read c.args.nodes.now (length c.args.nodes.now) c.loop-at.at node refl inside c.index-nodes-at.is in
    step c.args.nodes.now c.loop-at.latest.items c.loop-at.at c.loop-at.invariant node is c.if-parent-at.false
    (next_at c.args.nodes.now c.loop-at.latest.items c.loop-at.at c.loop-at.invariant inside node.parent c.if-parent-at.false node.name
    c.index.result.now c.index.ensures (c.follows-is_next.ensures c.if-not-is_next.false))

pub returns : goal.returns
returns c is = end c.args.nodes.now c.loop-at.latest.items c.loop-at.at c.loop-at.invariant (omega arith)
