use Rattle.std.proofs.Common.{arith}
use Rattle.format_volume.proofs.WriteLemmas.{putting_ends, putting_goes_on}
use Rattle.format_volume.proofs.writing.put_blocks.Goals as goal

pub loop-done-preserved : goal.loop-done-preserved
loop-done-preserved g c =
    putting_goes_on g.D.Drive c.args.block c.args.doc.now c.loop-done.done c.args.drive.now c.loop-done.drive c.put_block.new.drive
    c.requires.located.0 c.piece.result.now c.requires.located.1 c.loop-done.invariant
    (omega (arith, c.loop-done-test.true, c.blocks-count.ensures.count)) c.piece.ensures.block
    c.in-Ok.ensures.done c.in-Ok.ensures.goes c.in-Ok.ensures.cause.later

pub returns-clause-done : goal.returns-clause-done
returns-clause-done g c =
    putting_ends g.D.Drive c.args.block c.args.doc.now c.loop-done.done c.args.drive.now c.loop-done.drive c.requires.some
    c.loop-done.invariant (omega (arith, c.loop-done-test.false, c.blocks-count.ensures.count))
