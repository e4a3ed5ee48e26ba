use Rattle.volume_state.proofs.CallLaws.ShowLaw.{steps_show}
use Rattle.volume_state.proofs.call_laws.laws.steps_show.Goals as goal

pub returns : goal.returns
returns g c = steps_show g.D.Drive
