use Rattle.std.proofs.Common.{true, subst}
use Rattle.tree_listing.specs.Steps.{GoesOn, StopsIn, told_keys}
use Rattle.tree_listing.proofs.Written.{keys_stopped, node_alone, node_failed, node_refused, node_with_keys}
use Rattle.tree_listing.proofs.listing.write_node.Goals as goal

pub returns-in-Err-clause-err : goal.returns-in-Err-clause-err
returns-in-Err-clause-err g c = node_refused c.args.all c.args.node.now (g.K.Sink.written c.args.out.now) c.args.lines.now

pub returns-in-Err-pass_on-clause-err : goal.returns-in-Err-pass_on-clause-err
returns-in-Err-pass_on-clause-err g c =
    node_failed c.args.all c.args.node.now (g.K.Sink.written c.args.out.now) c.args.lines.now c.put.new.self c.in-Ok.ensures (g.K.Sink.written c.pass_on.new.out) c.in-Err-pass_on.ensures.err

pub returns-in-Ok-write_keys-clause-ok : goal.returns-in-Ok-write_keys-clause-ok
returns-in-Ok-write_keys-clause-ok g c =
    node_with_keys c.args.all c.args.node.now (g.K.Sink.written c.args.out.now) c.args.lines.now c.put.new.self c.in-Ok.ensures
    (g.K.Sink.written c.pass_on.new.out) c.pass_on.new.self c.in-Ok-pass_on.ensures.ok c.in-Ok-pass_on.ensures.stays
    (g.K.Sink.written c.write_keys.new.out) c.write_keys.new.lines c.if-all.true c.in-Ok-write_keys.ensures.stays
    (subst (λ x. GoesOn (told_keys true c.pass_on.new.self.names.items x) (g.K.Sink.written c.pass_on.new.out) (g.K.Sink.written c.write_keys.new.out) c.pass_on.new.self.text.items c.write_keys.new.lines.text.items)
    c.as_slice.ensures c.in-Ok-write_keys.ensures.ok)

pub returns-in-Err-write_keys-clause-err : goal.returns-in-Err-write_keys-clause-err
returns-in-Err-write_keys-clause-err g c =
    keys_stopped c.args.all c.args.node.now (g.K.Sink.written c.args.out.now) c.args.lines.now c.put.new.self c.in-Ok.ensures
    (g.K.Sink.written c.pass_on.new.out) c.pass_on.new.self c.in-Ok-pass_on.ensures.ok c.in-Ok-pass_on.ensures.stays
    c.in-Err-write_keys.error (g.K.Sink.written c.write_keys.new.out) c.if-all.true
    (subst (λ x. StopsIn c.in-Err-write_keys.error (told_keys true c.pass_on.new.self.names.items x) (g.K.Sink.written c.pass_on.new.out) (g.K.Sink.written c.write_keys.new.out) c.pass_on.new.self.text.items)
    c.as_slice.ensures c.in-Err-write_keys.ensures.err)

pub returns-clause-ok : goal.returns-clause-ok
returns-clause-ok g c =
    node_alone c.args.all c.args.node.now (g.K.Sink.written c.args.out.now) c.args.lines.now c.put.new.self c.in-Ok.ensures
    (g.K.Sink.written c.pass_on.new.out) c.pass_on.new.self c.in-Ok-pass_on.ensures.ok c.in-Ok-pass_on.ensures.stays c.if-all.false
