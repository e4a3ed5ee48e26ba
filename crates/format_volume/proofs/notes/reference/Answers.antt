use Rattle.format_volume.proofs.NoteLemmas.{sure_looked}
use Rattle.format_volume.proofs.notes.reference.Goals as goal

pub returns-in-Ok-clause-sure : goal.returns-in-Ok-clause-sure
returns-in-Ok-clause-sure g c =
    sure_looked (g.D.Drive.held c.args.drive.now) (g.D.Drive.held c.vcr.new.self)
    (g.D.Drive.leaves c.args.drive.now) (g.D.Drive.leaves c.vcr.new.self) (g.D.Drive.commands c.args.drive.now)
    (g.D.Drive.left_since c.args.drive.now) (g.D.Drive.left_since c.vcr.new.self)
    c.in-Ok.ensures.held c.requires.sure c.in-Ok.ensures.crash
