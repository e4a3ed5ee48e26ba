use Rattle.plain_tree.proofs.LockLemmas.{locks_hold}
use Rattle.plain_tree.proofs.laws.locks_hold.Goals as goal

pub returns : goal.returns
returns c = locks_hold
