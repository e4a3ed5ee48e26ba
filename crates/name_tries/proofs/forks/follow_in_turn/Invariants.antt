use Rattle.name_tries.specs.Tries.{Trie, IsAt}
use Rattle.name_tries.specs.Ways.{AreTowards, left}
use Rattle.name_tries.proofs.forks.follow_in_turn.Given as goal

abbrev pub invariant-loop-place : goal.invariant-loop-place
invariant-loop-place l = (t : Trie) → IsAt l.forks l.fn.root t → AreTowards l.forks l.trail l.name t

abbrev pub decreases-loop-place : goal.decreases-loop-place
decreases-loop-place l = left l.forks l.trail.at
