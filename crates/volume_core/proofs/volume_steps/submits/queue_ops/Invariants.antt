use Rattle.std.proofs.Common.{◌≤◌, ◌-◌}
use Rattle.volume_core.proofs.VolumeSteps.QueueLemmas.{Queuing, places_behind}
use Rattle.volume_core.proofs.volume_steps.submits.queue_ops.Given as goal

abbrev pub invariant-loop-nth : goal.invariant-loop-nth
invariant-loop-nth l =
    (l.others ≤ l.nth) × Queuing (places_behind l.others l.stock.layout.ops) (l.nth - l.others) l.fn.trail l.trail
