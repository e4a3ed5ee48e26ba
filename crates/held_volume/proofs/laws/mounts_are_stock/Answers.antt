use Rattle.held_volume.proofs.laws.mounts_are_stock.Goals as goal
use Rattle.held_volume.proofs.MountLaws.{mounts_are_stock}

pub returns : goal.returns
returns c = mounts_are_stock
