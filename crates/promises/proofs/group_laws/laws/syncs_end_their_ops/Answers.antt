use Rattle.promises.proofs.group_laws.laws.syncs_end_their_ops.Goals as goal
use Rattle.promises.proofs.GroupLaws.GroupLemmas.{syncs_end_their_ops}

pub returns : goal.returns
returns c = syncs_end_their_ops
