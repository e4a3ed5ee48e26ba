use Rattle.promises.proofs.group_laws.laws.syncs_of_nothing_end_none.Goals as goal
use Rattle.promises.proofs.GroupLaws.GroupLemmas.{syncs_of_nothing_end_none}

pub returns : goal.returns
returns c = syncs_of_nothing_end_none
