use Rattle.std.proofs.Common.{◌-◌, ◌≤◌, vec_capacity}
use Rattle.tape_desk.specs.Dealing.{HasDealt}
use Rattle.tape_desk.proofs.opening.deal.Given as goal

abbrev pub invariant-loop-who : goal.invariant-loop-who
invariant-loop-who g l = HasDealt l.lock l.sessions l.counts l.initial.whole l.who l.whole l.passes.items
    × (l.sessions ≤ vec_capacity l.passes)

abbrev pub decreases-loop-who : goal.decreases-loop-who
decreases-loop-who g l = l.who - 1
