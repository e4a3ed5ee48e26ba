use Rattle.plain_tree.proofs.LawLemmas.{highest_rises, unused_stays}
use Rattle.plain_tree.proofs.laws.uids_never_return.Goals as goal

pub returns : goal.returns
returns c = record { rises = highest_rises; stays_unused = unused_stays }
