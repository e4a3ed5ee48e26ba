use Rattle.volume_state.proofs.CallLaws.Promised.{running_is_promised}
use Rattle.volume_state.proofs.call_laws.laws.running_is_promised.Goals as goal

pub returns : goal.returns
returns g c = running_is_promised g.D.Drive
