use Rattle.plain_tree.proofs.WriteLemmas.{rename_keeps_nodes}
use Rattle.plain_tree.proofs.laws.renames_keep_nodes.Goals as goal

pub returns : goal.returns
returns c = rename_keeps_nodes
