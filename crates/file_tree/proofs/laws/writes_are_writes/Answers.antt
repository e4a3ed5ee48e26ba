use Rattle.file_tree.proofs.BytesLemmas.{writes_are_writes}
use Rattle.file_tree.proofs.laws.writes_are_writes.Goals as goal

pub returns : goal.returns
returns c = writes_are_writes
