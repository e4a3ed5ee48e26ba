use Rattle.promises.proofs.CrashLaws.Survives.{safe_volumes_survive}
use Rattle.promises.proofs.crash_laws.laws.safe_volumes_survive.Goals as goal

pub returns : goal.returns
returns g c = safe_volumes_survive g.D.Drive
