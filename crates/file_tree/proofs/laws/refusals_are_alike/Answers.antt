use Rattle.file_tree.proofs.RefusalLemmas.{refusals_alike}
use Rattle.file_tree.proofs.laws.refusals_are_alike.Goals as goal

pub returns : goal.returns
returns c = refusals_alike
