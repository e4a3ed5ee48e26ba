use Rattle.file_tree.proofs.GatherLemmas.{AreSpelled}
use Rattle.file_tree.proofs.members.named.Given as goal

abbrev pub invariant-loop-number : goal.invariant-loop-number
invariant-loop-number l = AreSpelled l.spots l.names l.number
