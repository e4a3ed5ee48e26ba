use Rattle.std.proofs.Common.{◌≤◌}
use Rattle.name_tries.specs.Tries.{Trie}
use Rattle.name_tries.specs.Ways.{AreTowards, left}
use Rattle.name_tries.proofs.forks.past_ones.Given as goal

abbrev pub invariant-loop-place : goal.invariant-loop-place
invariant-loop-place l = ((t : Trie) → AreTowards l.forks l.fn.from l.name t → AreTowards l.forks l.trail l.name t)
    × (left l.forks l.trail.at ≤ left l.forks l.fn.from.at)

abbrev pub decreases-loop-place : goal.decreases-loop-place
decreases-loop-place l = left l.forks l.trail.at
