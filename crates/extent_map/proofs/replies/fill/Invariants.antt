use Rattle.std.proofs.Common.{◌≡◌, length, take}
use Rattle.extent_map.specs.Cells.{Tape}
use Rattle.extent_map.specs.Replies.{Places, size_of, IsBlock, IsGathered}
use Rattle.extent_map.proofs.ReplyLemmas.{Halfway}
use Rattle.extent_map.proofs.replies.fill.Given as goal

abbrev pub invariant-loop-piece : goal.invariant-loop-piece
invariant-loop-piece l =
    (l.at ≡ size_of (take l.piece-index l.pieces)) × (length l.bytes ≡ length l.initial.bytes)
    × ((tape : Tape) (read : Places) → IsBlock tape l.place l.block → IsGathered tape read l.pieces l.initial.bytes → Halfway tape read l.place l.pieces l.piece-index l.at l.bytes)
