use Rattle.std.proofs.Common.{◌≡◌, length, drop}
use Rattle.extent_map.specs.Cells.{Tape}
use Rattle.extent_map.specs.Replies.{IsBlock, IsGathered, Places}
use Rattle.waiting_reads.specs.Stands.{at_pos}
use Rattle.waiting_reads.proofs.FillLemmas.{Ahead}
use Rattle.waiting_reads.proofs.stands.fill_at.Given as goal

abbrev pub invariant-loop-stand : goal.invariant-loop-stand
invariant-loop-stand l =
    (length l.bytes ≡ length l.initial.bytes)
    × ((tape : Tape) (read : Places) → IsBlock tape l.place l.block → IsGathered tape read l.pieces l.initial.bytes
    → Ahead tape read l.place l.pieces l.bytes (drop l.stand-index (at_pos l.place.pos l.stands)))
