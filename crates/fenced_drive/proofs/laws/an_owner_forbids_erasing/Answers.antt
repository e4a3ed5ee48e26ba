use Rattle.fenced_drive.proofs.Owned.{forbids_erasing}
use Rattle.fenced_drive.proofs.laws.an_owner_forbids_erasing.Goals as goal

pub returns : goal.returns
returns g c = forbids_erasing (g.D.Drive.leaves c.args.drive.now)
