use Rattle.generation_view.proofs.Chains.{one_tree, one_way}
use Rattle.generation_view.proofs.laws.generations_have_one_tree.Goals as goal

pub returns-clause-way : goal.returns-clause-way
returns-clause-way c = one_way

pub returns-clause-tree : goal.returns-clause-tree
returns-clause-tree c = one_tree
