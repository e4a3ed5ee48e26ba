use Rattle.volume_state.proofs.ClosingLaws.Nears.{closes_can_tell}
use Rattle.volume_state.proofs.closing_laws.laws.closes_can_tell.Goals as goal

pub returns : goal.returns
returns g c = closes_can_tell g.D.Drive
