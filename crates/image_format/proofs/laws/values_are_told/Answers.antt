use Rattle.image_format.proofs.ValueLemmas.{value_found, value_only, value_reads}
use Rattle.image_format.proofs.laws.values_are_told.Goals as goal

pub returns-clause-found : goal.returns-clause-found
returns-clause-found c = λ raw s is. value_found raw s is

pub returns-clause-only : goal.returns-clause-only
returns-clause-only c = λ raw s long e. value_only raw s long e

pub returns-clause-written : goal.returns-clause-written
returns-clause-written c = λ s is. value_reads s is
