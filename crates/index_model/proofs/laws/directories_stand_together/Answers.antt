use Rattle.index_model.proofs.OrderLaws.{together}
use Rattle.index_model.proofs.laws.directories_stand_together.Goals as goal

pub returns : goal.returns
returns c = together
