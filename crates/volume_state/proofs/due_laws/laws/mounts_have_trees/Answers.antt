use Rattle.volume_state.proofs.due_laws.laws.mounts_have_trees.Goals as goal
use Rattle.volume_state.proofs.DueLaws.Trees.{mounts_have_trees}

pub returns : goal.returns
returns c = mounts_have_trees
