use Rattle.file_tree.proofs.BlockLemmas.{ends_hold}
use Rattle.file_tree.proofs.laws.ends_hold.Goals as goal

pub returns : goal.returns
returns c = ends_hold
