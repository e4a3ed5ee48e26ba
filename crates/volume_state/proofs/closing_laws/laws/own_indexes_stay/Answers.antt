use Rattle.volume_state.proofs.ClosingLaws.OwnLaw.{own_indexes_stay}
use Rattle.volume_state.proofs.closing_laws.laws.own_indexes_stay.Goals as goal

pub returns : goal.returns
returns g c = own_indexes_stay
