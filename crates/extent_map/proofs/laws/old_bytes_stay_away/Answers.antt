use Rattle.extent_map.proofs.LawLemmas.{old_bytes_stay_away}
use Rattle.extent_map.proofs.laws.old_bytes_stay_away.Goals as goal

pub returns : goal.returns
returns c = old_bytes_stay_away
