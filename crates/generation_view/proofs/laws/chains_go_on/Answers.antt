use Rattle.generation_view.proofs.Chains.{one_more, stay}
use Rattle.generation_view.proofs.laws.chains_go_on.Goals as goal

pub returns-clause-stay : goal.returns-clause-stay
returns-clause-stay c = stay

pub returns-clause-one_more : goal.returns-clause-one_more
returns-clause-one_more c = one_more
