use Rattle.std.proofs.Common.{◌∙◌, arith}
use Rattle.byte_disk.specs.Files.{bytes_of}
use Rattle.image_slots.specs.State.{file_of}
use Rattle.image_format.proofs.Pieces.{told_short, told_width}
use Rattle.image_format.proofs.window.width_at.Goals as goal

pub returns-then-end-at-lt5-clause-told : goal.returns-then-end-at-lt5-clause-told
returns-then-end-at-lt5-clause-told g c = λ d held.
    told_short (bytes_of (file_of c.args.part) d) c.args.at c.args.end (c.requires.within d held) c.if-end-at-lt5.true

pub returns-in-Ok-clause-told : goal.returns-in-Ok-clause-told
returns-in-Ok-clause-told g c = λ d held.
    c.width_within.ensures.value
    ∙ told_width (bytes_of (file_of c.args.part) d) c.bring.new.window c.args.at c.args.end c.head_in.result (c.requires.within d held) (omega arith)
    (c.in-Ok.ensures.shows d held) c.in-Ok.ensures.head c.head_in.ensures
