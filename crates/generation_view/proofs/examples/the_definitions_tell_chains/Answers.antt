use Rattle.std.proofs.Common.{arith}
use Rattle.generation_view.proofs.Trials.{above, below, gap, to_middle, to_newest, to_oldest, whole}
use Rattle.generation_view.proofs.examples.the_definitions_tell_chains.Goals as goal

pub returns-clause-whole : goal.returns-clause-whole
returns-clause-whole c = whole

pub returns-clause-newest : goal.returns-clause-newest
returns-clause-newest c = λ r. to_newest r 4 (omega arith)

pub returns-clause-middle : goal.returns-clause-middle
returns-clause-middle c = λ r. to_middle r 2 (omega arith) (omega arith)

pub returns-clause-oldest : goal.returns-clause-oldest
returns-clause-oldest c = to_oldest

pub returns-clause-gap : goal.returns-clause-gap
returns-clause-gap c = gap

pub returns-clause-above : goal.returns-clause-above
returns-clause-above c = above

pub returns-clause-below : goal.returns-clause-below
returns-clause-below c = below
