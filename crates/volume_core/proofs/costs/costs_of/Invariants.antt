use Rattle.std.proofs.Common.{take}
use Rattle.volume_core.specs.Costs.{IsWalked}
use Rattle.volume_core.proofs.costs.costs_of.Given as goal

abbrev pub invariant-loop-at : goal.invariant-loop-at
invariant-loop-at l = IsWalked (take l.at l.events) l.walk
