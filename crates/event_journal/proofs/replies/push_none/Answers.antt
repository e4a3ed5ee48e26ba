use Rattle.event_journal.proofs.LetGoLemmas.{here_none, values_none}
use Rattle.event_journal.proofs.replies.push_none.Goals as goal

pub returns-clause-values : goal.returns-clause-values
returns-clause-values c = values_none _ _ c.push.ensures.items

pub returns-clause-here : goal.returns-clause-here
returns-clause-here c = here_none _ _ c.push.ensures.items
