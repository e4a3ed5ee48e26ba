use Rattle.promises.proofs.CrashLaws.Turned.{turns_are_safe}
use Rattle.promises.proofs.crash_laws.laws.turns_are_safe.Goals as goal

pub returns : goal.returns
returns g c = turns_are_safe g.D.Drive g.met.D.Drive.only_now
