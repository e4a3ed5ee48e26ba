use Rattle.cartridge_meaning.proofs.Frame.{labels_stay, nodes_further, pointers_stay, reads_stays, tree_stays}
use Rattle.cartridge_meaning.proofs.laws.cartridges_alike_read_alike.Goals as goal

pub returns-clause-reads : goal.returns-clause-reads
returns-clause-reads c = λ one other facts tree generation keeps. reads_stays one other keeps facts tree generation

pub returns-clause-labels : goal.returns-clause-labels
returns-clause-labels c = labels_stay

pub returns-clause-trees : goal.returns-clause-trees
returns-clause-trees c = tree_stays

pub returns-clause-extents : goal.returns-clause-extents
returns-clause-extents c = nodes_further

pub returns-clause-pointers : goal.returns-clause-pointers
returns-clause-pointers c = pointers_stay
