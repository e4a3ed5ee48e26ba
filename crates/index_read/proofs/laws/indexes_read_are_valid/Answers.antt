use Rattle.index_read.proofs.ValidIndexes.{index_valid}
use Rattle.index_read.proofs.laws.indexes_read_are_valid.Goals as goal

pub returns : goal.returns
returns c = index_valid
