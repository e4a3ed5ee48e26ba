use Rattle.std.proofs.Common.{◌<◌, ◌-◌, length, refl, arith}
use Rattle.std.proofs.lemmas.Option.{slice_get_read}
use Rattle.index_model.proofs.IndexFaults.KeySteps.{ascends_at_first, ascends_end, ascends_more}
use Rattle.index_model.proofs.index_faults.double_keys.keys_ascend.Goals as goal

pub loop-at-init : goal.loop-at-init
loop-at-init c = ascends_at_first c.args.xattrs.now

pub loop-at-preserved : goal.loop-at-preserved
loop-at-preserved c =
    let inside : c.loop-at.at < length c.args.xattrs.now = omega arith in
    let last_is = slice_get_read c.args.xattrs.now (length c.args.xattrs.now) (c.loop-at.at - 1) c.index-xattrs-last.result refl (omega arith) c.index-xattrs-last.is in
    let new_is = slice_get_read c.args.xattrs.now (length c.args.xattrs.now) c.loop-at.at c.index-xattrs-at.result refl inside c.index-xattrs-at.is in
    ascends_more c.args.xattrs.now c.loop-at.at (c.loop-at.at - 1) c.loop-at.invariant (omega arith) c.index-xattrs-last.result c.index-xattrs-at.result last_is new_is
    (c.is_below-is_next.ensures c.if-not-is_next.false)

pub returns : goal.returns
returns c is = ascends_end c.args.xattrs.now c.loop-at.at c.loop-at.invariant (omega arith)
