use Rattle.std.proofs.Common.{◌∙◌, Some, ap}
use Rattle.tape_drive.specs.Commands.{after_read, item_at}
use Rattle.mount_recover.proofs.DocumentLemmas.{after_block_read, block_read}
use Rattle.mount_recover.proofs.documents.read_block.Goals as goal

pub returns-in-Ok-put_block-clause-head : goal.returns-in-Ok-put_block-clause-head
returns-in-Ok-put_block-clause-head g c =
    (after_read c.in-Ok.field-0 c.requires.located.0, c.in-Ok.ensures.head c.requires.located.0 c.requires.located.1)

pub returns-in-Ok-put_block-clause-told : goal.returns-in-Ok-put_block-clause-told
returns-in-Ok-put_block-clause-told g c =
    λ at held b h k is.
    let r = block_read (item_at at held) c.in-Ok.field-0 c.read.new.buf.items b (c.in-Ok.ensures.item at held h k) is in
    (c.in-Ok.ensures.head at h ∙ ap Some (after_block_read c.in-Ok.field-0 at r.0), r.1)
