use Rattle.volume_state.proofs.plan_laws.laws.plans_agree.Goals as goal
use Rattle.volume_state.proofs.PlanLaws.Agrees.{plans_agree}

pub returns : goal.returns
returns c = plans_agree
