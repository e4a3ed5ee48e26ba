use Rattle.volume_state.proofs.plan_laws.laws.plans_hold.Goals as goal
use Rattle.volume_state.proofs.PlanLaws.Plans.{plans_hold}

pub returns : goal.returns
returns c = plans_hold
