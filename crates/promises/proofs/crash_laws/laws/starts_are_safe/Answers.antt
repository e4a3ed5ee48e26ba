use Rattle.promises.proofs.CrashLaws.Begins.{starts_are_safe}
use Rattle.promises.proofs.crash_laws.laws.starts_are_safe.Goals as goal

pub returns : goal.returns
returns g c = starts_are_safe g.D.Drive g.met.D.Drive.counts_now
