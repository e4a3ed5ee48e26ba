use Rattle.volume_state.proofs.plan_laws.laws.tapes_tell.Goals as goal
use Rattle.volume_state.proofs.PlanLaws.Tells.{tapes_tell}

pub returns : goal.returns
returns c = tapes_tell
