use Rattle.volume_state.proofs.CallLaws.Shown.{submissions_show}
use Rattle.volume_state.proofs.call_laws.laws.submissions_show.Goals as goal

pub returns : goal.returns
returns g c = submissions_show g.D.Drive
