use Rattle.volume_state.proofs.due_laws.laws.indexes_are_due.Goals as goal
use Rattle.volume_state.proofs.DueLaws.Due.{index_due}

pub returns : goal.returns
returns g c = index_due
