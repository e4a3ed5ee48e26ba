use Rattle.volume_state.proofs.plan_laws.examples.the_definitions_tell_plans.Goals as goal
use Rattle.volume_state.proofs.PlanLaws.Worked.{tells_plans}

pub returns : goal.returns
returns c = tells_plans
