use Rattle.extent_map.proofs.ByteLemmas.{blocks_have_the_bytes}
use Rattle.extent_map.proofs.laws.blocks_have_the_bytes.Goals as goal

pub returns : goal.returns
returns c = blocks_have_the_bytes
