use Rattle.volume_state.proofs.CallLaws.Sealed.{sealed_stay}
use Rattle.volume_state.proofs.call_laws.laws.sealed_volumes_stay.Goals as goal

pub returns : goal.returns
returns g c = sealed_stay g.D.Drive
