use Rattle.std.proofs.Common.{◌∙◌, ap}
use Rattle.image_format.specs.declared.values.Half.{Half}
use Rattle.image_tape.proofs.Telling.{is_sure_at, note_is}
use Rattle.image_tape.proofs.commands.ImageTapeDrive.read_note.Goals as goal

pub returns-clause-settled : goal.returns-clause-settled
returns-clause-settled g c = is_sure_at g.B.ByteDisk _ _ c.self.view_is c.self.invariant c.in_default.ensures.settled

pub returns-clause-value : goal.returns-clause-value
returns-clause-value g c = λ y held.
    ap (λ (h : Half). h.note) c.half_of.ensures ∙ note_is g.B.ByteDisk c.args.part _ _ c.args.self.now c.self.view_is c.self.invariant c.in_default.ensures.settled.doubt c.in_default.ensures.looked.held y held
