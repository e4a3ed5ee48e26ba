use Rattle.image_slots.proofs.Choosing.{chosen_value, one_stored, one_value, value_chosen}
use Rattle.image_slots.proofs.laws.values_are_chosen.Goals as goal

pub returns-clause-found : goal.returns-clause-found
returns-clause-found c = λ cm v e. chosen_value cm v e

pub returns-clause-only : goal.returns-clause-only
returns-clause-only c = λ cm v h. value_chosen cm v h

pub returns-clause-one : goal.returns-clause-one
returns-clause-one c = λ cm v w h k. one_value cm v w h k

pub returns-clause-one_stored : goal.returns-clause-one_stored
returns-clause-one_stored c = λ d v w h k. one_stored d v w h k
