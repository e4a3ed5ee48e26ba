use Rattle.std.proofs.Common.{◌∙◌}
use Rattle.std.proofs.lemmas.Result.{on_ok_weaker}
use Rattle.format_volume.proofs.NoteLemmas.{noted_with}
use Rattle.format_volume.proofs.notes.write_notes.Goals as goal

pub returns-in-Ok-clause-told : goal.returns-in-Ok-clause-told
returns-in-Ok-clause-told g c =
    on_ok_weaker c.put_both.result
    (λ told. λ k held. noted_with c.args.spec.now k c.in-Ok.vcr c.encode_note-note.result (g.D.Drive.held c.put_both.new.drive)
    (c.in-Ok.ensures.value k held) c.encode_note-note.ensures.bytes c.encode_note-note.ensures.decodes (told k (c.in-Ok.ensures.held ∙ held)))
    c.put_both.ensures.told
