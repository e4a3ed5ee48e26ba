use Rattle.volume_state.proofs.plan_laws.laws.ends_go_on.Goals as goal
use Rattle.volume_state.proofs.PlanLaws.Admits.{ends_go_on}

pub returns : goal.returns
returns c = ends_go_on
