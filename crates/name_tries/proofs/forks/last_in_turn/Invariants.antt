use Rattle.name_tries.specs.Tries.{Trie}
use Rattle.name_tries.specs.Ways.{IsWayToLast, left}
use Rattle.name_tries.proofs.forks.last_in_turn.Given as goal

abbrev pub invariant-loop-place : goal.invariant-loop-place
invariant-loop-place l = (t : Trie) → IsWayToLast l.forks t l.name l.fn.from → IsWayToLast l.forks t l.name l.last

abbrev pub decreases-loop-place : goal.decreases-loop-place
decreases-loop-place l = left l.forks l.last.below
