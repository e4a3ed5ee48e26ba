use Rattle.volume_state.proofs.plan_laws.laws.places_stay.Goals as goal
use Rattle.volume_state.proofs.PlanLaws.Places.{places_stay}

pub returns : goal.returns
returns c = places_stay
