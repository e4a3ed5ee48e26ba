use Rattle.volume_state.proofs.ClosingLaws.Leaves.{closed_stand}
use Rattle.volume_state.proofs.closing_laws.laws.closed_volumes_stand.Goals as goal

pub returns : goal.returns
returns g c = closed_stand g.D.Drive
