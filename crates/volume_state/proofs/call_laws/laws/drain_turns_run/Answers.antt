use Rattle.volume_state.proofs.CallLaws.DrainTurn.{drain_turns_all_run}
use Rattle.volume_state.proofs.call_laws.laws.drain_turns_run.Goals as goal

pub returns : goal.returns
returns g c = drain_turns_all_run g.D.Drive g.met.D.Drive.only_now
