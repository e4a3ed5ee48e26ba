use Rattle.plain_tree.proofs.LinkLemmas.{some_ascend, none_ascend}
use Rattle.plain_tree.proofs.links.Links.has_entries.Goals as goal

pub returns-in-Some-clause-ascend : goal.returns-in-Some-clause-ascend
returns-in-Some-clause-ascend c = some_ascend _ c.in-Some.names.now c.in-Some.ensures.value c.len.ensures.ordered

pub returns-in-None-clause-ascend : goal.returns-in-None-clause-ascend
returns-in-None-clause-ascend c = none_ascend _ c.in-None.ensures.value
