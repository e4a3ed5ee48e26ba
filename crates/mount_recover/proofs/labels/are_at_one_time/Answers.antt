use Rattle.std.proofs.Common.{ap}
use Rattle.tape_types.specs.Times.{civil_of}
use Rattle.mount_recover.proofs.LabelLemmas.{one_civil}
use Rattle.mount_recover.proofs.labels.are_at_one_time.Goals as goal

pub returns : goal.returns
returns c = (λ yes. ap civil_of (c.are_one.ensures.0 yes), λ times. c.are_one.ensures.1 (one_civil c.args.ip c.args.dp times))
