use Rattle.volume_state.proofs.ClosingLaws.Aheads.{none_is_ahead}
use Rattle.volume_state.proofs.closing_laws.laws.none_is_ahead.Goals as goal

pub returns : goal.returns
returns g c = none_is_ahead g.D.Drive
