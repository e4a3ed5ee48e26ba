use Rattle.std.proofs.Common.{◌≤◌, vec_capacity}
use Rattle.tape_desk.specs.Dealing.{AreCounts}
use Rattle.tape_desk.proofs.opening.counts_of.Given as goal

abbrev pub invariant-loop-who : goal.invariant-loop-who
invariant-loop-who g l = AreCounts l.shelf.volume.fixed.script l.who l.counts.items × (l.fn.sessions ≤ vec_capacity l.counts)
