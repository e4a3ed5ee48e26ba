use Rattle.volume_state.proofs.CallLaws.Started.{beginnings_are_tied}
use Rattle.volume_state.proofs.call_laws.laws.beginnings_are_tied.Goals as goal

pub returns : goal.returns
returns g c = beginnings_are_tied g.D.Drive g.met.D.Drive.counts_now
