use Rattle.extent_map.proofs.PieceLemmas.{plans_read}
use Rattle.extent_map.proofs.laws.plans_read.Goals as goal

pub returns : goal.returns
returns c = plans_read
