use Rattle.space_laws.proofs.HistoryFacts.{tells_histories}
use Rattle.space_laws.proofs.examples.the_definitions_tell_histories.Goals as goal

pub returns : goal.returns
returns c = tells_histories
