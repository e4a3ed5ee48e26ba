use Rattle.std.proofs.Common.{length, refl, arith}
use Rattle.std.proofs.lemmas.Option.{slice_get_read}
use Rattle.index_model.proofs.IndexFaults.Keys.{was_free, was_had}
use Rattle.index_model.proofs.IndexFaults.NameSteps.{begin, taken_here, step, end}
use Rattle.index_model.proofs.index_faults.names.first_taken_of_any.Goals as goal

pub loop-at-init : goal.loop-at-init
loop-at-init c = begin c.args.nodes.now c.new-seen.result c.new-seen.ensures.empty

pub returns-then-not-is_new : goal.returns-then-not-is_new
returns-then-not-is_new c =
    let is = slice_get_read c.args.nodes.now (length c.args.nodes.now) c.loop-at.at c.index-nodes-at.result refl (omega arith) c.index-nodes-at.is in
    taken_here c.args.nodes.now c.loop-at.seen c.loop-at.at c.loop-at.invariant c.index-nodes-at.result is
    (c.digest.result, c.index-nodes-at.result.parent, c.as_str-name.result) c.digest.ensures refl c.as_str-name.ensures
    (was_had _ _ c.if-not-is_new.true c.in_ok-is_new.ensures.added)

pub loop-at-preserved : goal.loop-at-preserved
loop-at-preserved c =
    let is = slice_get_read c.args.nodes.now (length c.args.nodes.now) c.loop-at.at c.index-nodes-at.result refl (omega arith) c.index-nodes-at.is in
    step c.args.nodes.now c.loop-at.seen c.loop-at.at c.loop-at.invariant c.index-nodes-at.result is
    (c.digest.result, c.index-nodes-at.result.parent, c.as_str-name.result) c.digest.ensures refl c.as_str-name.ensures
    c.insert.new.self (was_free _ _ c.if-not-is_new.false c.in_ok-is_new.ensures.added) c.in_ok-is_new.ensures.updates

pub returns : goal.returns
returns c = end c.args.nodes.now c.loop-at.seen c.loop-at.at c.loop-at.invariant (omega arith)
