use Rattle.extent_map.proofs.LawLemmas.{lengths_truncate}
use Rattle.extent_map.proofs.laws.lengths_truncate.Goals as goal

pub returns : goal.returns
returns c = lengths_truncate
