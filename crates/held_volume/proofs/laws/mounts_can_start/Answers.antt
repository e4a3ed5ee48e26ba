use Rattle.held_volume.proofs.laws.mounts_can_start.Goals as goal
use Rattle.held_volume.proofs.MountLaws.{mounts_can_start}

pub returns : goal.returns
returns c = mounts_can_start
