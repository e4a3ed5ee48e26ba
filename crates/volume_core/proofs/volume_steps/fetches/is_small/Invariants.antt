use Rattle.std.proofs.Common.{◌≡◌, ◌≤◌, take}
use Rattle.tape_types.specs.Bounds.{longest_file}
use Rattle.extent_map.specs.Replies.{size_of}
use Rattle.volume_core.proofs.volume_steps.fetches.is_small.Given as goal

abbrev pub invariant-loop-piece : goal.invariant-loop-piece
invariant-loop-piece l = (l.total ≡ size_of (take l.piece-index l.pieces)) × (l.total ≤ longest_file)
