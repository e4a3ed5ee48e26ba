use Rattle.promises.proofs.CrashLaws.Stepped.{steps_are_safe}
use Rattle.promises.proofs.crash_laws.laws.steps_are_safe.Goals as goal

pub returns : goal.returns
returns g c = steps_are_safe g.D.Drive g.met.D.Drive.only_now
