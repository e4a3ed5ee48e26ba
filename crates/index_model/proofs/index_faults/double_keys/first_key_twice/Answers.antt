use Rattle.std.proofs.Common.{length, refl, subst}
use Rattle.std.proofs.lemmas.Option.{slice_get_read}
use Rattle.index_model.specs.IndexFaults.Firsts.{TellsTwice}
use Rattle.index_model.proofs.IndexFaults.KeySteps.{nodes_end, none_here, twice_here}
use Rattle.index_model.proofs.index_faults.double_keys.first_key_twice.Goals as goal

pub returns-then-is_double : goal.returns-then-is_double
returns-then-is_double c =
    let is = slice_get_read c.args.nodes.now (length c.args.nodes.now) c.loop-node.node-index c.node-item.result refl c.loop-node-test.true c.node-item.is in
    twice_here c.args.nodes.now c.loop-node.node-index c.loop-node.invariant c.node-item.result is
    (subst (TellsTwice c.node-item.result.xattrs) c.if-is_double.true (subst (λ xs. TellsTwice xs c.in_ok-is_double.is_double) c.as_slice.ensures c.in_ok-is_double.ensures))

pub loop-node-preserved : goal.loop-node-preserved
loop-node-preserved c =
    let is = slice_get_read c.args.nodes.now (length c.args.nodes.now) c.loop-node.node-index c.node-item.result refl c.loop-node-test.true c.node-item.is in
    none_here c.args.nodes.now c.loop-node.node-index c.loop-node.invariant c.node-item.result is
    (subst (TellsTwice c.node-item.result.xattrs) c.if-is_double.false (subst (λ xs. TellsTwice xs c.in_ok-is_double.is_double) c.as_slice.ensures c.in_ok-is_double.ensures))

pub returns : goal.returns
returns c = nodes_end c.args.nodes.now c.loop-node.node-index c.loop-node.invariant c.loop-node-test.false
