use Rattle.volume_core.proofs.CloseEnds.{closes_end}
use Rattle.volume_core.proofs.laws.closes_end.Goals as goal

pub returns : goal.returns
returns g c = closes_end g.D.Drive g.met.D.Drive.counts_now
