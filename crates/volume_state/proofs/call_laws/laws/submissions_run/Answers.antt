use Rattle.volume_state.proofs.CallLaws.Submitted.{submissions_run}
use Rattle.volume_state.proofs.call_laws.laws.submissions_run.Goals as goal

pub returns : goal.returns
returns g c = submissions_run g.D.Drive g.met.D.Drive.only_now
