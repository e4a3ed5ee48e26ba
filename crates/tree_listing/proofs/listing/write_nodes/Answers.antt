use Rattle.std.proofs.Common.{refl}
use Rattle.std.proofs.lemmas.Option.{slice_get_read}
use Rattle.tree_listing.proofs.Written.{goes_on, stops}
use Rattle.tree_listing.proofs.listing.write_nodes.Goals as goal

pub returns-in-Err-write_node-clause-stopped : goal.returns-in-Err-write_node-clause-stopped
returns-in-Err-write_node-clause-stopped g c tree are =
    let at = c.loop-node.node-index in
    let is = slice_get_read c.args.nodes.now _ at c.node-item.result refl c.loop-node-test.true c.node-item.is in
    stops c.args.all c.args.nodes.now c.requires at c.node-item.result (g.K.Sink.written c.args.out.now) (g.K.Sink.written c.loop-node.out) (g.K.Sink.written c.write_node.new.out)
    c.loop-node.lines (g.K.Sink.faults c.args.out.now) (g.K.Sink.faults c.loop-node.out) is c.loop-node.invariant c.in-Err-write_node.error c.in-Err-write_node.ensures.err tree are

pub loop-node-preserved : goal.loop-node-preserved
loop-node-preserved g c =
    let at = c.loop-node.node-index in
    let is = slice_get_read c.args.nodes.now _ at c.node-item.result refl c.loop-node-test.true c.node-item.is in
    goes_on c.args.all c.args.nodes.now c.requires at c.node-item.result (g.K.Sink.written c.args.out.now) (g.K.Sink.written c.loop-node.out) (g.K.Sink.written c.write_node.new.out)
    c.loop-node.lines (g.K.Sink.faults c.args.out.now) (g.K.Sink.faults c.loop-node.out) is c.loop-node.invariant c.write_node.new.lines (g.K.Sink.faults c.write_node.new.out)
    c.in-Ok-write_node.ensures.ok c.in-Ok-write_node.ensures.cause.later
