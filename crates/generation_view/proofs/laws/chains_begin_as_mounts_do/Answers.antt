use Rattle.generation_view.proofs.Chains.{as_mounted}
use Rattle.generation_view.proofs.laws.chains_begin_as_mounts_do.Goals as goal

pub returns : goal.returns
returns c = as_mounted
