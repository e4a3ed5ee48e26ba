use Rattle.extent_map.proofs.DistinctLemmas.{replies_gather}
use Rattle.extent_map.proofs.laws.replies_gather.Goals as goal

pub returns : goal.returns
returns c = replies_gather
