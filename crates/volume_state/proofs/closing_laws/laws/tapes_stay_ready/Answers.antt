use Rattle.volume_state.proofs.ClosingLaws.Readied.{tapes_stay_ready}
use Rattle.volume_state.proofs.closing_laws.laws.tapes_stay_ready.Goals as goal

pub returns : goal.returns
returns g c = tapes_stay_ready g.D.Drive
