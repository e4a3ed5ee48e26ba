use Rattle.promises.proofs.group_laws.laws.others_keep_groups.Goals as goal
use Rattle.promises.proofs.GroupLaws.GroupLemmas.{others_keep_groups}

pub returns : goal.returns
returns c = others_keep_groups
