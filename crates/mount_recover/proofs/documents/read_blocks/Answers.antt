use Rattle.mount_recover.proofs.DocumentLemmas.{all_read, goes_on}
use Rattle.mount_recover.proofs.documents.read_blocks.Goals as goal

pub loop-done-preserved : goal.loop-done-preserved
loop-done-preserved g c = (
  c.in-Ok.ensures.room,
  goes_on g.D.Drive c.args.drive.now c.loop-done.drive c.read_block.new.drive c.args.document.now.items c.loop-done.document.items
      c.read_block.new.document.items c.read_block.new.buffer.items c.args.blocks c.loop-done.done c.loop-done.read c.in-Ok.next
      c.loop-done.invariant.1 c.loop-done-test.true c.in-Ok.ensures.head c.in-Ok.ensures.cause.later c.in-Ok.ensures.looks
      c.in-Ok.ensures.put c.in-Ok.ensures.told,
)

pub returns-clause-told : goal.returns-clause-told
returns-clause-told g c =
    all_read g.D.Drive c.args.drive.now c.loop-done.drive c.args.document.now.items c.loop-done.document.items c.truncate.new.self.items
    c.args.blocks c.loop-done.done c.loop-done.read c.loop-done.invariant.1 c.loop-done-test.false c.truncate.ensures.items
