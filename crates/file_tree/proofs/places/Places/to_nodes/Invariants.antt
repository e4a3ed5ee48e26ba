use Rattle.std.proofs.Common.{◌≡◌, map, take}
use Rattle.std.specs.FinMap as fin
use Rattle.file_tree.specs.Told.{told_of}
use Rattle.file_tree.proofs.places.Places.to_nodes.Given as goal

abbrev pub invariant-loop-number : goal.invariant-loop-number
invariant-loop-number l = l.nodes ≡ map (told_of l.letters l.volume (fin.keys l.self.nodes)) (take l.number-index (fin.entries l.self.nodes))
