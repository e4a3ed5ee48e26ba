use Rattle.volume_state.proofs.DueLaws.Labels.{tell_labels}
use Rattle.volume_state.proofs.due_laws.laws.mounts_tell_labels.Goals as goal

pub returns : goal.returns
returns c = tell_labels
