use Rattle.generation_view.proofs.Chains.{links_once}
use Rattle.generation_view.proofs.Ends.{one_chain, one_end, some_end, whole_or_broken}
use Rattle.generation_view.proofs.laws.chains_end_in_one_way.Goals as goal

pub returns-clause-links : goal.returns-clause-links
returns-clause-links c = links_once

pub returns-clause-whole : goal.returns-clause-whole
returns-clause-whole c = one_chain

pub returns-clause-broken : goal.returns-clause-broken
returns-clause-broken c = one_end

pub returns-clause-never_both : goal.returns-clause-never_both
returns-clause-never_both c = whole_or_broken

pub returns-clause-one : goal.returns-clause-one
returns-clause-one c = some_end
