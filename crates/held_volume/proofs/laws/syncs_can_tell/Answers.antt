use Rattle.held_volume.proofs.laws.syncs_can_tell.Goals as goal
use Rattle.held_volume.proofs.TellLaws.{syncs_can_tell}

pub returns : goal.returns
returns c = syncs_can_tell
