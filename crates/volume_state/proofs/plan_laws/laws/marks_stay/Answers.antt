use Rattle.volume_state.proofs.plan_laws.laws.marks_stay.Goals as goal
use Rattle.volume_state.proofs.PlanLaws.Marks.{marks_stay}

pub returns : goal.returns
returns c = marks_stay
