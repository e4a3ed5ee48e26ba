use Rattle.std.proofs.Common.{arith}
use Rattle.extent_map.proofs.TakenBytes.{part_lost, part_there, taken, left}
use Rattle.extent_map.proofs.reading.append_part.Goals as goal

pub returns-then-to-block-clause-ok : goal.returns-then-to-block-clause-ok
returns-then-to-block-clause-ok c =
    left c.args.bytes.now.items _
    (part_lost c.args.block.now c.args.byte c.args.count (omega (arith, c.if-count-eq0.false)) c.if-to-block.true)

pub returns-clause-ok : goal.returns-clause-ok
returns-clause-ok c =
    taken c.args.bytes.now.items c.extend_from_slice.new.self.items _ _
    (part_there c.args.block.now c.args.byte c.args.count _ (omega (arith, c.if-to-block.false)) (omega arith))
    c.in_ok-extend_from_slice.ensures.items
