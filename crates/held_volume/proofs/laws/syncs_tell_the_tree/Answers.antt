use Rattle.held_volume.proofs.laws.syncs_tell_the_tree.Goals as goal
use Rattle.held_volume.proofs.SyncLaw.{synced_tells}

pub returns : goal.returns
returns c = synced_tells
