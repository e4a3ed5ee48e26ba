use Rattle.extent_map.proofs.LawLemmas.{overlays_write}
use Rattle.extent_map.proofs.laws.overlays_write.Goals as goal

pub returns : goal.returns
returns c = overlays_write
