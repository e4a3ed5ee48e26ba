use Rattle.volume_state.proofs.ClosingLaws.Rests.{volumes_rest}
use Rattle.volume_state.proofs.closing_laws.laws.volumes_rest.Goals as goal

pub returns : goal.returns
returns g c = volumes_rest g.D.Drive
