use Rattle.volume_state.proofs.ClosingLaws.IndexLaw.{indexes_stay}
use Rattle.volume_state.proofs.closing_laws.laws.indexes_stay.Goals as goal

pub returns : goal.returns
returns g c = indexes_stay
