use Rattle.promises.proofs.group_laws.laws.writes_queue_their_ops.Goals as goal
use Rattle.promises.proofs.GroupLaws.GroupLemmas.{writes_queue_their_ops}

pub returns : goal.returns
returns c = writes_queue_their_ops
