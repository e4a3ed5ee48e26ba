use Rattle.plain_tree.proofs.RowLemmas.{worked}
use Rattle.plain_tree.proofs.laws.rows_are_worked.Goals as goal

pub returns : goal.returns
returns c = worked
