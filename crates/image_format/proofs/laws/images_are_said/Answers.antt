use Rattle.image_format.proofs.ImageLemmas.{said_found, said_only}
use Rattle.image_format.proofs.laws.images_are_said.Goals as goal

pub returns-clause-found : goal.returns-clause-found
returns-clause-found c = λ limits d r ip dp is. said_found limits d ip dp r is

pub returns-clause-only : goal.returns-clause-only
returns-clause-only c = λ limits d r ip dp e. said_only limits d ip dp r e
