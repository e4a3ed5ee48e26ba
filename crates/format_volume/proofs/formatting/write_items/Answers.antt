use Rattle.std.proofs.lemmas.Result.{on_ok_weaker}
use Rattle.format_volume.proofs.VolumeLemmas.{items_written}
use Rattle.format_volume.proofs.formatting.write_items.Goals as goal

pub returns-in-Ok-clause-done : goal.returns-in-Ok-clause-done
returns-in-Ok-clause-done g c =
    on_ok_weaker c.write_both_indexes.result
    (items_written g.D.Drive c.args.spec.now c.args.texts.now c.args.drive.now c.write_both_labels.new.drive c.write_both_indexes.new.drive
    c.requires.texts c.in-Ok.ensures.done)
    c.write_both_indexes.ensures.done
