use Rattle.std.proofs.Common.{◌≡◌, ◌++◌, map}
use Rattle.std.specs.List.{range_with_len}
use Rattle.extent_map.specs.Pieces.{piece_in}
use Rattle.extent_map.proofs.pieces.push_run.Given as goal

abbrev pub invariant-loop-k : goal.invariant-loop-k
invariant-loop-k l = l.pieces.items ≡ l.initial.pieces.items ++ map (piece_in l.block_size l.run) (range_with_len 0 l.k)
