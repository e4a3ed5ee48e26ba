use Rattle.promises.proofs.CrashLaws.Asked.{submits_are_safe}
use Rattle.promises.proofs.crash_laws.laws.submits_are_safe.Goals as goal

pub returns : goal.returns
returns g c = submits_are_safe g.D.Drive g.met.D.Drive.only_now
