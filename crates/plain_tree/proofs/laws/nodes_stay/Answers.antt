use Rattle.plain_tree.proofs.LawLemmas.{nodes_stay}
use Rattle.plain_tree.proofs.laws.nodes_stay.Goals as goal

pub returns : goal.returns
returns c = nodes_stay
