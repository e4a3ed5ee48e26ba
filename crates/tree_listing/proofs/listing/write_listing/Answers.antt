use Rattle.std.proofs.Common.{◌∙◌}
use Rattle.tree_listing.proofs.Written.{cut_short, done, last_failed, last_refused}
use Rattle.tree_listing.proofs.listing.write_listing.Goals as goal

pub returns-in-Err-clause-cut_short : goal.returns-in-Err-clause-cut_short
returns-in-Err-clause-cut_short g c tree are locked =
    cut_short c.args.all tree c.args.generation c.args.spot c.in-Err.error (g.K.Sink.written c.args.out.now) (g.K.Sink.written c.write_nodes.new.out) (c.in-Err.ensures.stopped tree are)

pub returns-in-Err-put_last-clause-cut_short : goal.returns-in-Err-put_last-clause-cut_short
returns-in-Err-put_last-clause-cut_short g c tree are locked =
    last_refused c.args.all tree (g.K.Sink.written c.args.out.now) (g.K.Sink.written c.write_nodes.new.out) c.in-Ok.rest.items (c.in-Ok.ensures.left tree are)

pub returns-clause-cut_short : goal.returns-clause-cut_short
returns-clause-cut_short g c tree are locked =
    last_failed c.args.all tree c.args.state c.args.generation c.args.spot locked (g.K.Sink.written c.args.out.now) (g.K.Sink.written c.write_nodes.new.out) (g.K.Sink.written c.write.new.self) c.in-Ok.rest.items c.deref.result.now
    (c.in-Ok.ensures.left tree are) (c.deref.ensures.value ∙ c.in-Ok-put_last.ensures) c.in-Err-write.ensures.err

pub returns-in-Ok-write-clause-done : goal.returns-in-Ok-write-clause-done
returns-in-Ok-write-clause-done g c tree are locked =
    done c.args.all tree c.args.state c.args.generation c.args.spot locked (g.K.Sink.written c.args.out.now) (g.K.Sink.written c.write_nodes.new.out) (g.K.Sink.written c.write.new.self) c.in-Ok.rest.items c.deref.result.now
    (c.in-Ok.ensures.left tree are) (c.deref.ensures.value ∙ c.in-Ok-put_last.ensures) c.in-Ok-write.ensures.ok
