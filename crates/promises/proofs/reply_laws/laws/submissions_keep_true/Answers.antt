use Rattle.promises.proofs.ReplyLaws.Waiting.{submissions_keep_true}
use Rattle.promises.proofs.reply_laws.laws.submissions_keep_true.Goals as goal

pub returns : goal.returns
returns g c = submissions_keep_true g.S.Serve.seen
