use Rattle.volume_core.proofs.VolumeSteps.TiedLemmas.{can_want}
use Rattle.volume_core.proofs.volume_steps.fetches.tied_reads_may_want.Goals as goal

pub returns : goal.returns
returns g c = can_want g.D.Drive
