use Rattle.std.proofs.Common.{◌≡◌, take, Some}
use Rattle.file_tree.specs.Tree.{number_at}
use Rattle.file_tree.proofs.places.Places.find.Given as goal

abbrev pub invariant-loop-name : goal.invariant-loop-name
invariant-loop-name l = number_at l.self.nodes (take l.name-index l.path) ≡ Some l.number
