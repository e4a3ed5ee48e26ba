use Rattle.name_tries.specs.Bits.{level}
use Rattle.name_tries.specs.Tries.{Trie, IsAt}
use Rattle.name_tries.specs.Ways.{IsTowards, IsWay, left}
use Rattle.name_tries.proofs.forks.way_to.Given as goal

abbrev pub invariant-loop-place : goal.invariant-loop-place
invariant-loop-place l = (t : Trie) → IsAt l.forks l.fn.root t → IsTowards l.forks l.fn.from l.name t
    → IsWay l.forks t l.name (level l.bit.byte l.bit.within) l.way

abbrev pub decreases-loop-place : goal.decreases-loop-place
decreases-loop-place l = left l.forks l.way.below
