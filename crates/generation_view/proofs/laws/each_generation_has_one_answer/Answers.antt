use Rattle.generation_view.proofs.Ends.{has_or_lacks, lacks_or_broken, some_answer, way_or_broken}
use Rattle.generation_view.proofs.laws.each_generation_has_one_answer.Goals as goal

pub returns-clause-one : goal.returns-clause-one
returns-clause-one c = some_answer

pub returns-clause-has_or_lacks : goal.returns-clause-has_or_lacks
returns-clause-has_or_lacks c = has_or_lacks

pub returns-clause-way_or_broken : goal.returns-clause-way_or_broken
returns-clause-way_or_broken c = way_or_broken

pub returns-clause-lacks_or_broken : goal.returns-clause-lacks_or_broken
returns-clause-lacks_or_broken c = lacks_or_broken
