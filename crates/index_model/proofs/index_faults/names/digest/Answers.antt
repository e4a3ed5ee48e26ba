use Rattle.std.proofs.Common.{rules}
use Rattle.index_model.specs.IndexFaults.Digest.{digest}
use Rattle.index_model.proofs.index_faults.names.digest.Goals as goal

pub returns : goal.returns
unfolding digest
returns c = search rules
