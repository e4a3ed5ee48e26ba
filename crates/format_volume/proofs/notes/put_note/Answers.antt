use Rattle.tape_types.specs.declared.cartridges.Note.TheVariants.{Kept}
use Rattle.format_volume.proofs.NoteLemmas.{sure_noted}
use Rattle.format_volume.proofs.notes.put_note.Goals as goal

pub returns-in-Ok-clause-sure : goal.returns-in-Ok-clause-sure
returns-in-Ok-clause-sure g c =
    sure_noted c.args.part (Kept c.args.note.now) (g.D.Drive.held c.args.drive.now) (g.D.Drive.held c.write_note.new.self)
    (g.D.Drive.leaves c.args.drive.now) (g.D.Drive.leaves c.write_note.new.self) (g.D.Drive.commands c.args.drive.now)
    (g.D.Drive.left_since c.args.drive.now) (g.D.Drive.left_since c.write_note.new.self)
    c.requires.sure c.in-Ok.ensures.told c.in-Ok.ensures.untold c.in-Ok.ensures.settled c.in-Ok.ensures.crash
