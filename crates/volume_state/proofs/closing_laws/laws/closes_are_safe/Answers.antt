use Rattle.volume_state.proofs.ClosingLaws.Keeps.{closes_are_safe}
use Rattle.volume_state.proofs.closing_laws.laws.closes_are_safe.Goals as goal

pub returns : goal.returns
returns g c = closes_are_safe g.D.Drive
