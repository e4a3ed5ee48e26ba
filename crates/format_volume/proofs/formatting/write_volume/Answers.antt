use Rattle.std.proofs.lemmas.Result.{on_ok_weaker}
use Rattle.format_volume.proofs.VolumeLemmas.{volume_held, volume_notes}
use Rattle.format_volume.proofs.formatting.write_volume.Goals as goal

pub returns-in-Ok-clause-holds : goal.returns-in-Ok-clause-holds
returns-in-Ok-clause-holds g c =
    on_ok_weaker c.write_notes.result
    (volume_held g.D.Drive c.args.spec.now c.args.drive.now c.write_items.new.drive c.write_notes.new.drive c.in-Ok.ensures.done)
    c.write_notes.ensures.told

pub returns-in-Ok-clause-notes : goal.returns-in-Ok-clause-notes
returns-in-Ok-clause-notes g c =
    on_ok_weaker c.write_notes.result
    (volume_notes g.D.Drive c.args.spec.now c.args.drive.now c.write_items.new.drive c.write_notes.new.drive c.in-Ok.ensures.done)
    c.write_notes.ensures.told
