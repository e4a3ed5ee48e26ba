use Rattle.file_tree.proofs.AgreeLemmas.{told_agree}
use Rattle.file_tree.proofs.OrderLemmas.{told_in_order}
use Rattle.file_tree.proofs.laws.told_nodes_agree.Goals as goal

pub returns : goal.returns
returns c = record { order = told_in_order; agrees = told_agree }
