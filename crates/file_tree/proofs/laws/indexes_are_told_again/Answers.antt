use Rattle.file_tree.proofs.AgainLemmas.{indexes_are_told_again}
use Rattle.file_tree.proofs.laws.indexes_are_told_again.Goals as goal

pub returns : goal.returns
returns c = indexes_are_told_again
