use Rattle.image_format.proofs.HeadLemmas.{head_found, head_only}
use Rattle.image_format.proofs.laws.heads_are_told.Goals as goal

pub returns-clause-found : goal.returns-clause-found
returns-clause-found c = λ h is. head_found h is

pub returns-clause-form : goal.returns-clause-form
returns-clause-form c = λ bytes h are e. (head_only bytes h are e).1

pub returns-clause-only : goal.returns-clause-only
returns-clause-only c = λ bytes h are e. (head_only bytes h are e).0
