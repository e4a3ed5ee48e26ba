use Rattle.volume_state.proofs.due_laws.laws.labels_stay_before.Goals as goal
use Rattle.volume_state.proofs.DueLaws.Behind.{begin_behind}

pub returns : goal.returns
returns c = begin_behind
