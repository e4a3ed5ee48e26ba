use Rattle.volume_core.proofs.VolumeSteps.HandLemmas.{gone_apart}
use Rattle.volume_core.proofs.volume_steps.handing.plain_reply.Goals as goal

pub returns-in-None-clause-none : goal.returns-in-None-clause-none
returns-in-None-clause-none c = gone_apart c.args.ticket c.args.placements.now.replies c.args.placements.now.marks c.in-None.ensures.none
