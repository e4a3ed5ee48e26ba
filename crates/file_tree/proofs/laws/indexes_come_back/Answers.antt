use Rattle.file_tree.proofs.IndexLemmas.{indexes_come_back}
use Rattle.file_tree.proofs.laws.indexes_come_back.Goals as goal

pub returns : goal.returns
returns c = indexes_come_back
