use Rattle.head_core.proofs.Sure.{flushed, kept}
use Rattle.head_core.proofs.laws.what_is_sure_stays_sure.Goals as goal

pub returns-clause-flushed : goal.returns-clause-flushed
returns-clause-flushed g c = flushed g.D.Drive g.met.D.Drive.only_now

pub returns-clause-kept : goal.returns-clause-kept
returns-clause-kept g c = kept g.D.Drive g.met.D.Drive.counts_now
