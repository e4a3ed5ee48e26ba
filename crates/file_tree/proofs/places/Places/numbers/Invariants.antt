use Rattle.std.proofs.Common.{◌-◌, length, reverse}
use Rattle.std.specs.FinMap as fin
use Rattle.file_tree.proofs.PreorderLemmas.{Walked}
use Rattle.file_tree.proofs.places.Places.numbers.Given as goal

abbrev pub invariant-loop-number : goal.invariant-loop-number
invariant-loop-number l = Walked l.self.nodes l.numbers.items (reverse l.open.items)

abbrev pub decreases-loop-number : goal.decreases-loop-number
decreases-loop-number l = fin.len l.self.nodes - length l.numbers.items
