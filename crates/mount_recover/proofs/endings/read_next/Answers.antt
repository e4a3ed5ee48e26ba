use Rattle.std.proofs.Common.{◌∙◌, Some, ap}
use Rattle.tape_drive.specs.Commands.{after_read}
use Rattle.tape_drive.specs.declared.drive.Got.{Got}
use Rattle.mount_recover.proofs.endings.read_next.Goals as goal

pub returns-in-Ok-put_block-clause-head : goal.returns-in-Ok-put_block-clause-head
returns-in-Ok-put_block-clause-head g c = λ at h. c.in-Ok-Block.ensures.head at h ∙ ap (λ (a : Got). Some (after_read a at)) c.in-Ok-Block.field-0-is

pub returns-in-Ok-Mark-clause-head : goal.returns-in-Ok-Mark-clause-head
returns-in-Ok-Mark-clause-head g c = λ at h. c.in-Ok-Mark.ensures.head at h ∙ ap (λ (a : Got). Some (after_read a at)) c.in-Ok-Mark.field-0-is
