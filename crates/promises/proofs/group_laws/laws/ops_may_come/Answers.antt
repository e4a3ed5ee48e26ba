use Rattle.promises.proofs.group_laws.laws.ops_may_come.Goals as goal
use Rattle.promises.proofs.GroupLaws.TrailLemmas.{ops_may_come}

pub returns : goal.returns
returns c = ops_may_come
