use Rattle.volume_state.proofs.ClosingLaws.Tells.{close_due}
use Rattle.volume_state.proofs.closing_laws.laws.indexes_of_closes_are_due.Goals as goal

pub returns : goal.returns
returns g c = close_due
