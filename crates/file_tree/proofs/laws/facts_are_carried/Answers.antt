use Rattle.file_tree.proofs.CarriedLemmas.{facts_are_carried}
use Rattle.file_tree.proofs.laws.facts_are_carried.Goals as goal

pub returns : goal.returns
returns c = facts_are_carried
