use Rattle.extent_map.proofs.BlockLemmas.{blocks_make_the_file}
use Rattle.extent_map.proofs.laws.blocks_make_the_file.Goals as goal

pub returns : goal.returns
returns c = blocks_make_the_file
