use Rattle.file_tree.proofs.MountedBlocks.{mounts_lie_below}
use Rattle.file_tree.proofs.laws.mounts_lie_below.Goals as goal

pub returns : goal.returns
returns c = mounts_lie_below
