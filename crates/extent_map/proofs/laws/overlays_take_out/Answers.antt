use Rattle.extent_map.proofs.TakenLemmas.{overlays_take_out}
use Rattle.extent_map.proofs.laws.overlays_take_out.Goals as goal

pub returns : goal.returns
returns c = overlays_take_out
