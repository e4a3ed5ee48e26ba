use Rattle.std.proofs.lemmas.Result.{on_ok_weaker}
use Rattle.tape_types.specs.declared.cartridges.Note.TheVariants.{Kept}
use Rattle.format_volume.proofs.NoteLemmas.{both_noted}
use Rattle.format_volume.proofs.notes.put_both.Goals as goal

pub returns-in-Ok-clause-told : goal.returns-in-Ok-clause-told
returns-in-Ok-clause-told g c =
    on_ok_weaker c.put_note-in-Ok.result
    (λ second. λ k held. both_noted (Kept c.args.note.now) (g.D.Drive.held c.put_note.new.drive) (g.D.Drive.held c.put_note-in-Ok.new.drive)
    k (c.in-Ok.ensures.told k held) second)
    c.put_note-in-Ok.ensures.told
