use Rattle.std.proofs.Common.{◌+◌, ◌-◌, ◌*◌, length}
use Rattle.name_tries.specs.Tries.{Trie, AreOnce, Shows}
use Rattle.name_tries.proofs.ListLemmas.{IsOver}
use Rattle.name_tries.proofs.forks.numbers_below.Given as goal

abbrev pub invariant-loop-at : goal.invariant-loop-at
invariant-loop-at l = (t : Trie) → AreOnce t → Shows l.forks l.fn.root t → IsOver l.forks t l.numbers.items l.left.items

abbrev pub decreases-loop-at : goal.decreases-loop-at
decreases-loop-at l = 2 * (length l.forks + 1 - length l.numbers.items) - length l.left.items
