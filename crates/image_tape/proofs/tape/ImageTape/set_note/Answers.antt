use Rattle.std.proofs.Common.{◌∙◌, ap, sym, arith}
use Rattle.image_format.specs.declared.values.SlotValue.{SlotValue}
use Rattle.image_tape.specs.Halves.{with_vcr}
use Rattle.image_tape.specs.Steps.{MayStand}
use Rattle.image_tape.specs.Tape.{Holds, View, cut_to}
use Rattle.image_tape.proofs.Surely.{settled_in}
use Rattle.image_tape.proofs.Wholes.{note_is_set_at, note_number, noted_hold, noted_stand, there}
use Rattle.image_tape.proofs.tape.ImageTape.set_note.Goals as goal

pub commit-requires-clause-holds : goal.commit-requires-clause-holds
commit-requires-clause-holds g c =
    there (λ b s x. Holds (cut_to s x.room) s) c.with_vcr-base.result c.with_note-reads.result _ _ _ _
    (c.with_vcr-base.ensures ∙ ap (λ (s : SlotValue). with_vcr c.self.inside.reads.vcr s) c.with_note-noted.ensures) c.with_note-reads.ensures c.self.view_is
    (noted_hold g.B.ByteDisk c.args.part c.args.note _ c.self.invariant)

pub commit-requires-clause-stands : goal.commit-requires-clause-stands
commit-requires-clause-stands g c =
    there (λ b s x. MayStand g.B.ByteDisk b s x) c.with_vcr-base.result c.with_note-reads.result _ _ _ _
    (c.with_vcr-base.ensures ∙ ap (λ (s : SlotValue). with_vcr c.self.inside.reads.vcr s) c.with_note-noted.ensures) c.with_note-reads.ensures c.self.view_is
    (noted_stand g.B.ByteDisk c.args.part c.args.note _ c.self.invariant (settled_in g.B.ByteDisk _ _ c.self.view_is c.requires))

pub commit-requires-clause-vcr : goal.commit-requires-clause-vcr
commit-requires-clause-vcr g c =
    ap (λ (s : SlotValue). s.vcr) c.with_vcr-base.ensures
    ∙ sym (ap (λ (s : SlotValue). s.vcr) c.with_note-reads.ensures ∙ note_number g.B.ByteDisk c.args.part c.args.note c.self.inside.reads)

pub commit-requires-clause-later : goal.commit-requires-clause-later
commit-requires-clause-later g c =
    omega (arith, ap (λ (s : SlotValue). s.vcr) c.with_vcr-base.ensures, ap (λ (v : View g.row.B.Denot). v.reads.vcr) c.self.view_is)

pub returns-clause-noted : goal.returns-clause-noted
returns-clause-noted g c =
    note_is_set_at g.B.ByteDisk c.commit.result c.args.part c.args.note c.with_vcr-base.result c.with_note-reads.result _ _ c.commit.new.self c.self.view_is c.self.invariant
    c.requires (c.with_vcr-base.ensures ∙ ap (λ (s : SlotValue). with_vcr c.self.inside.reads.vcr s) c.with_note-noted.ensures) c.with_note-reads.ensures c.commit.ensures.commit
    c.commit.ensures.set
