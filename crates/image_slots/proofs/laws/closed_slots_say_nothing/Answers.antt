use Rattle.image_slots.proofs.Pairs.{closed_first, closed_second}
use Rattle.image_slots.proofs.laws.closed_slots_say_nothing.Goals as goal

pub returns-clause-second : goal.returns-clause-second
returns-clause-second c = λ a b d la lb ld ob od. closed_second a b d la lb ld ob od

pub returns-clause-first : goal.returns-clause-first
returns-clause-first c = λ a b d la lb ld ob od. closed_first a b d la lb ld ob od
