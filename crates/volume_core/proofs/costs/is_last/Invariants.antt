use Rattle.std.proofs.Common.{◌≡◌, drop}
use Rattle.volume_core.specs.Costs.{is_last}
use Rattle.volume_core.proofs.costs.is_last.Given as goal

abbrev pub invariant-loop-event : goal.invariant-loop-event
invariant-loop-event l = is_last l.part l.later ≡ is_last l.part (drop l.event-index l.later)
