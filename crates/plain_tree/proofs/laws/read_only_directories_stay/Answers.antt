use Rattle.plain_tree.proofs.ReadOnlyLemmas.{dirs_stay}
use Rattle.plain_tree.proofs.laws.read_only_directories_stay.Goals as goal

pub returns : goal.returns
returns c = dirs_stay
