use Rattle.std.proofs.Common.{ap, refl}
use Rattle.head_core.specs.Views.{HeadView}
use Rattle.volume_core.proofs.BeginLemmas.{are_fresh, can_start}
use Rattle.volume_core.proofs.starting.begin.Goals as goal

pub start-requires : goal.start-requires
start-requires g c =
    let l = c.limits-limits in
    can_start (g.D.Drive.limits c.args.drive) l.result c.args.mounted l.ensures.value l.ensures.range c.requires

pub returns-in-Ok-new-3-clause-fresh : goal.returns-in-Ok-new-3-clause-fresh
returns-in-Ok-new-3-clause-fresh g c fixed begins =
    let D = g.row.D.Denot in
    let stock = c.in-Ok.ensures {u = tt} in
    let placed = c.in-Ok-new.ensures {u = tt} in
    let trail = c.new-in-Ok-new-3.ensures in
    let queue = c.new-in-Ok-new-3-2.ensures in
    let reads = c.new-in-Ok-new-3-3.ensures in
    are_fresh g.D.Drive fixed c.args.drive c.args.mounted c.limits-limits.result c.args.calls c.args.sessions _ begins
    c.limits-limits.ensures.value (ap (λ (h : HeadView D). h.drive) (c.in-Ok-new-3.ensures {u = tt}).made)
    record {
      events = trail.events;
      acks = trail.acks;
      kept = trail.kept;
      waiting = queue.waiting;
      arrived = queue.arrived;
      history = placed.history;
      replies = placed.replies;
      marks = placed.marks;
      calls_are = placed.calls;
      sessions_are = placed.sessions;
      reads = reads.reads;
      answered = reads.answered;
      on = refl;
      cached = c.in-Ok-new-2.ensures {u = tt};
    }
    record { ops = stock.ops; stands = stock.stands; tree = stock.tree }
