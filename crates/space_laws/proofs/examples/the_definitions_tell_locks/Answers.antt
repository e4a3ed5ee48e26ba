use Rattle.space_laws.proofs.HistoryFacts.{tells_locks}
use Rattle.space_laws.proofs.examples.the_definitions_tell_locks.Goals as goal

pub returns : goal.returns
returns c = tells_locks
