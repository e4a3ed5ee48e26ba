use Rattle.promises.proofs.ReplyLaws.Truths.{drain_turns_stay_true}
use Rattle.promises.proofs.reply_laws.laws.drain_turns_stay_true.Goals as goal

pub returns : goal.returns
returns g c = drain_turns_stay_true g.S.Serve.seen
