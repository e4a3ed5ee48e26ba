use Rattle.std.proofs.Common.{refl}
use Rattle.std.proofs.lemmas.Option.{slice_get_read}
use Rattle.tree_listing.proofs.Written.{keys_failed, keys_go_on, keys_refused}
use Rattle.tree_listing.proofs.listing.write_keys.Goals as goal

pub returns-in-Err-clause-err : goal.returns-in-Err-clause-err
returns-in-Err-clause-err g c =
    keys_refused c.args.xattrs.now c.loop-xattr.xattr-index (g.K.Sink.written c.args.out.now) (g.K.Sink.written c.loop-xattr.out) c.args.lines.now c.loop-xattr.lines
    (g.K.Sink.faults c.args.out.now) (g.K.Sink.faults c.loop-xattr.out) c.loop-xattr.invariant

pub returns-in-Err-pass_on-clause-err : goal.returns-in-Err-pass_on-clause-err
returns-in-Err-pass_on-clause-err g c =
    let is = slice_get_read c.args.xattrs.now _ c.loop-xattr.xattr-index c.xattr-item.result refl c.loop-xattr-test.true c.xattr-item.is in
    keys_failed c.args.xattrs.now c.loop-xattr.xattr-index c.xattr-item.result (g.K.Sink.written c.args.out.now) (g.K.Sink.written c.loop-xattr.out) c.args.lines.now c.loop-xattr.lines c.put_key.new.self
    (g.K.Sink.faults c.args.out.now) (g.K.Sink.faults c.loop-xattr.out) is c.loop-xattr.invariant c.in-Ok.ensures.text c.in-Ok.ensures.stays (g.K.Sink.written c.pass_on.new.out) c.in-Err-pass_on.ensures.err

pub loop-xattr-preserved : goal.loop-xattr-preserved
loop-xattr-preserved g c =
    let is = slice_get_read c.args.xattrs.now _ c.loop-xattr.xattr-index c.xattr-item.result refl c.loop-xattr-test.true c.xattr-item.is in
    keys_go_on c.args.xattrs.now c.loop-xattr.xattr-index c.xattr-item.result (g.K.Sink.written c.args.out.now) (g.K.Sink.written c.loop-xattr.out) c.args.lines.now c.loop-xattr.lines c.put_key.new.self
    (g.K.Sink.faults c.args.out.now) (g.K.Sink.faults c.loop-xattr.out) is c.loop-xattr.invariant c.in-Ok.ensures.text c.in-Ok.ensures.stays (g.K.Sink.written c.pass_on.new.out) c.pass_on.new.self
    (g.K.Sink.faults c.pass_on.new.out) c.in-Ok-pass_on.ensures.ok c.in-Ok-pass_on.ensures.stays c.in-Ok-pass_on.ensures.cause.later
