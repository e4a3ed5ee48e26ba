use Rattle.event_journal.proofs.LetGoLemmas.{here_put, values_put}
use Rattle.event_journal.proofs.replies.put.Goals as goal

pub returns-clause-values : goal.returns-clause-values
returns-clause-values c = values_put c.args.replies.now.items c.args.place c.args.reply

pub returns-clause-here : goal.returns-clause-here
returns-clause-here c = here_put c.args.replies.now.items c.args.place c.args.reply
