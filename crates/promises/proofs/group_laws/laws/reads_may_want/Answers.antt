use Rattle.promises.proofs.group_laws.laws.reads_may_want.Goals as goal
use Rattle.promises.proofs.GroupLaws.TrailLemmas.{reads_may_want}

pub returns : goal.returns
returns c = reads_may_want
