use Rattle.image_slots.proofs.Pairs.{gate_first, gate_second}
use Rattle.image_slots.proofs.laws.a_gate_is_before_or_after.Goals as goal

pub returns-clause-second : goal.returns-clause-second
returns-clause-second c = λ a value gate la lv. gate_second a value gate la lv

pub returns-clause-first : goal.returns-clause-first
returns-clause-first c = λ a value gate la lv. gate_first a value gate la lv
