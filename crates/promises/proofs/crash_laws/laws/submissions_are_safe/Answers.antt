use Rattle.promises.proofs.CrashLaws.Submitted.{submissions_are_safe}
use Rattle.promises.proofs.crash_laws.laws.submissions_are_safe.Goals as goal

pub returns : goal.returns
returns g c = submissions_are_safe g.D.Drive g.met.D.Drive.only_now
