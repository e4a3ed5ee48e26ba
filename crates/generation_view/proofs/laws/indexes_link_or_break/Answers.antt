use Rattle.generation_view.proofs.Chains.{one_link}
use Rattle.generation_view.proofs.Ends.{judged, not_link, one_break}
use Rattle.generation_view.proofs.laws.indexes_link_or_break.Goals as goal

pub returns-clause-link : goal.returns-clause-link
returns-clause-link c = one_link

pub returns-clause-reason : goal.returns-clause-reason
returns-clause-reason c = one_break

pub returns-clause-never_both : goal.returns-clause-never_both
returns-clause-never_both c = not_link

pub returns-clause-one : goal.returns-clause-one
returns-clause-one c = judged
