use Rattle.promises.proofs.ReplyLaws.Truths.{turns_stay_true}
use Rattle.promises.proofs.reply_laws.laws.turns_stay_true.Goals as goal

pub returns : goal.returns
returns g c = turns_stay_true g.S.Serve.seen
