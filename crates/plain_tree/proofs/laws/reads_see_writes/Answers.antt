use Rattle.plain_tree.proofs.WriteLemmas.{read_written}
use Rattle.plain_tree.proofs.laws.reads_see_writes.Goals as goal

pub returns : goal.returns
returns c = read_written
