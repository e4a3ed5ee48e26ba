use Rattle.volume_state.proofs.CallLaws.CanLaw.{steps_can_be_made}
use Rattle.volume_state.proofs.call_laws.laws.steps_can_be_made.Goals as goal

pub returns : goal.returns
returns g c = steps_can_be_made g.D.Drive
