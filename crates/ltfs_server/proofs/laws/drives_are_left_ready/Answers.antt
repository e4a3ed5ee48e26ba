use Rattle.ltfs_server.proofs.Readiness.{leaves_ready}
use Rattle.ltfs_server.proofs.laws.drives_are_left_ready.Goals as goal

pub returns : goal.returns
returns g c = leaves_ready g.D.Drive g.met.D.Drive.only_now
