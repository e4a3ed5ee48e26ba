use Rattle.volume_state.proofs.due_laws.laws.stocks_go_by_the_tape.Goals as goal
use Rattle.volume_state.proofs.DueLaws.Tapes.{go_by_the_tape}

pub returns : goal.returns
returns c = go_by_the_tape
