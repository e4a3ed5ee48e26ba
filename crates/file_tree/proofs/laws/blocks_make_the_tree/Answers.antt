use Rattle.file_tree.proofs.BlockLemmas.{blocks_make_the_tree}
use Rattle.file_tree.proofs.laws.blocks_make_the_tree.Goals as goal

pub returns : goal.returns
returns c = blocks_make_the_tree
