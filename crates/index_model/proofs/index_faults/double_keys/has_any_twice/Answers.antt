use Rattle.std.proofs.Common.{length, refl, arith}
use Rattle.std.proofs.lemmas.Option.{slice_get_read}
use Rattle.index_model.proofs.IndexFaults.Keys.{was_free, was_had}
use Rattle.index_model.proofs.IndexFaults.KeySteps.{again_here, begin, end, step}
use Rattle.index_model.proofs.index_faults.double_keys.has_any_twice.Goals as goal

pub loop-at-init : goal.loop-at-init
loop-at-init c = begin c.args.xattrs.now c.new-seen.result c.new-seen.ensures.empty

pub returns-then-not-is_new : goal.returns-then-not-is_new
returns-then-not-is_new c =
    let is = slice_get_read c.args.xattrs.now (length c.args.xattrs.now) c.loop-at.at c.index-xattrs-at.result refl (omega arith) c.index-xattrs-at.is in (
      c.loop-at.at,
      again_here c.args.xattrs.now c.loop-at.seen c.loop-at.at c.loop-at.invariant c.index-xattrs-at.result is
          c.as_str-key.result c.as_str-key.ensures (was_had _ _ c.if-not-is_new.true c.in_ok-is_new.ensures.added),
    )

pub loop-at-preserved : goal.loop-at-preserved
loop-at-preserved c =
    let is = slice_get_read c.args.xattrs.now (length c.args.xattrs.now) c.loop-at.at c.index-xattrs-at.result refl (omega arith) c.index-xattrs-at.is in
    step c.args.xattrs.now c.loop-at.seen c.loop-at.at c.loop-at.invariant c.index-xattrs-at.result is
    c.as_str-key.result c.as_str-key.ensures c.insert.new.self (was_free _ _ c.if-not-is_new.false c.in_ok-is_new.ensures.added) c.in_ok-is_new.ensures.updates

pub returns : goal.returns
returns c = end c.args.xattrs.now c.loop-at.seen c.loop-at.at c.loop-at.invariant (omega arith)
