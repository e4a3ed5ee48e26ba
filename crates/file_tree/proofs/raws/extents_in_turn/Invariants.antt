use Rattle.std.proofs.Common.{take, drop}
use Rattle.file_tree.specs.Raws.{IsPlaced}
use Rattle.file_tree.proofs.raws.extents_in_turn.Given as goal

abbrev pub invariant-loop-raw : goal.invariant-loop-raw
invariant-loop-raw l = IsPlaced l.letters l.block_size l.length (take l.raw-index l.raws) (drop l.raw-index l.raws) l.extents.laid
