use Rattle.std.proofs.Common.{◌≡◌, ◌+◌, drop}
use Rattle.volume_core.specs.Costs.{to_op}
use Rattle.volume_core.proofs.costs.to_op.Given as goal

abbrev pub invariant-loop-event : goal.invariant-loop-event
invariant-loop-event l = (l.taken ≡ l.event-index) × (to_op l.events ≡ l.taken + to_op (drop l.event-index l.events))
