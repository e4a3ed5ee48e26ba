use Rattle.volume_state.proofs.plan_laws.laws.tapes_stay.Goals as goal
use Rattle.volume_state.proofs.PlanLaws.Stays.{tapes_stay}

pub returns : goal.returns
returns c = tapes_stay
