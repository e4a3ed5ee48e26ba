use Rattle.file_tree.proofs.PlainLemmas.{plain_nodes_agree}
use Rattle.file_tree.proofs.laws.plain_nodes_agree.Goals as goal

pub returns : goal.returns
returns c = plain_nodes_agree
