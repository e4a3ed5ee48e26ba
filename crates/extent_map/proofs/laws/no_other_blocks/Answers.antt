use Rattle.extent_map.proofs.BlockLemmas.{no_other_blocks}
use Rattle.extent_map.proofs.laws.no_other_blocks.Goals as goal

pub returns : goal.returns
returns c = no_other_blocks
