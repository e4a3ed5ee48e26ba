use Rattle.promises.proofs.group_laws.laws.groups_begin.Goals as goal
use Rattle.promises.proofs.GroupLaws.GroupLemmas.{groups_begin}

pub returns : goal.returns
returns c = groups_begin
