use Rattle.volume_state.proofs.ClosingLaws.Wholes.{wholes_stay}
use Rattle.volume_state.proofs.closing_laws.laws.wholes_stay.Goals as goal

pub returns : goal.returns
returns c = wholes_stay
