use Rattle.promises.proofs.ReplyLaws.Waiting.{staying_gives}
use Rattle.promises.proofs.reply_laws.laws.what_stays_true_is_true.Goals as goal

pub returns : goal.returns
returns g c = staying_gives g.S.Serve.seen
