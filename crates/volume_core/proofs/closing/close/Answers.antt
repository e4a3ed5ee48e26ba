use Rattle.std.proofs.Common.{sym, ap, subst, ◌∙◌}
use Rattle.file_tree.specs.Valid.{IsGood}
use Rattle.head_queue.specs.EventLaws.Trail.{IsTrail}
use Rattle.event_journal.specs.Trails.{Journaled}
use Rattle.volume_core.proofs.closing.close.Goals as goal

pub costs_of-cost-requires : goal.costs_of-cost-requires
costs_of-cost-requires g c =
    subst IsTrail
    (sym (c.take_log-drive.ensures.log_is.events ∙ ap (λ (t : Journaled). t.events) c.finish-outcome.ensures.trail))
    c.requires.can.runs.kept.order.orderly.trail

pub finish-outcome-requires : goal.finish-outcome-requires
finish-outcome-requires g c = (
  c.requires.can.fixed,
  c.requires.can.next,
  record {
    runs = c.requires.can.runs;
    nothing = c.requires.can.nothing;
    moment = c.requires.can.moment;
    good = subst IsGood c.tree.ensures c.count-nodes.ensures.good;
  },
)
