use Rattle.index_model.proofs.OneValue.{one_value}
use Rattle.index_model.proofs.SomeValue.{some_value}
use Rattle.index_model.proofs.laws.indexes_tell_one_value.Goals as goal

pub returns-clause-some : goal.returns-clause-some
returns-clause-some c = some_value

pub returns-clause-one : goal.returns-clause-one
returns-clause-one c = one_value
