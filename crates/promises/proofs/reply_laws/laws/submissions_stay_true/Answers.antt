use Rattle.promises.proofs.ReplyLaws.Truths.{submissions_stay_true}
use Rattle.promises.proofs.reply_laws.laws.submissions_stay_true.Goals as goal

pub returns : goal.returns
returns g c = submissions_stay_true g.S.Serve.seen
