use Rattle.name_tries.specs.Tries.{Trie, IsAt}
use Rattle.name_tries.specs.Ways.{IsTowards}
use Rattle.name_tries.proofs.forks.few_on.Given as goal

abbrev pub invariant-loop : goal.invariant-loop
invariant-loop l = (t : Trie) → IsAt l.forks l.fn.root t → IsTowards l.forks l.at l.name t
