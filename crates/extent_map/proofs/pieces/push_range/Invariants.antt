use Rattle.std.proofs.Common.{◌≡◌, ◌++◌, drop}
use Rattle.extent_map.specs.Laid.{cut, left_from}
use Rattle.extent_map.specs.Pieces.{with_gaps}
use Rattle.extent_map.proofs.pieces.push_range.Given as goal

abbrev pub invariant-loop-extent : goal.invariant-loop-extent
invariant-loop-extent l =
    l.initial.pieces.items ++ with_gaps l.block_size l.from l.end (left_from l.block_size l.from (cut l.end l.extents))
    ≡ l.pieces.items ++ with_gaps l.block_size l.at l.end (left_from l.block_size l.from (cut l.end (drop l.extent-index l.extents)))
