use Rattle.volume_state.proofs.CallLaws.TurnLaw.{turns_run}
use Rattle.volume_state.proofs.call_laws.laws.turns_run.Goals as goal

pub returns : goal.returns
returns g c = turns_run g.D.Drive g.met.D.Drive.only_now
