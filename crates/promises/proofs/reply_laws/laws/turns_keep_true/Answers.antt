use Rattle.promises.proofs.ReplyLaws.Waiting.{turns_keep_true}
use Rattle.promises.proofs.reply_laws.laws.turns_keep_true.Goals as goal

pub returns : goal.returns
returns g c = turns_keep_true g.S.Serve.seen
