use Rattle.plain_tree.proofs.KeyLemmas.{keys_are_maps}
use Rattle.plain_tree.proofs.laws.keys_are_maps.Goals as goal

pub returns : goal.returns
returns c = keys_are_maps
