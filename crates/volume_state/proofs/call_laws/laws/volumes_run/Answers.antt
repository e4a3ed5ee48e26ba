use Rattle.volume_state.proofs.CallLaws.Begun.{volumes_run}
use Rattle.volume_state.proofs.call_laws.laws.volumes_run.Goals as goal

pub returns : goal.returns
returns g c = volumes_run g.D.Drive g.met.D.Drive.counts_now
