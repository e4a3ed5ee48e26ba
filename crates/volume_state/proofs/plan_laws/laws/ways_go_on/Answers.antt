use Rattle.volume_state.proofs.plan_laws.laws.ways_go_on.Goals as goal
use Rattle.volume_state.proofs.PlanLaws.Ways.{ways_go_on}

pub returns : goal.returns
returns c = ways_go_on
