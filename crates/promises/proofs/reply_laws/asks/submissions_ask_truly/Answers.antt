use Rattle.promises.proofs.ReplyLaws.AskSubmits.{submissions_ask_truly}
use Rattle.promises.proofs.reply_laws.asks.submissions_ask_truly.Goals as goal

pub returns : goal.returns
returns g c = submissions_ask_truly g.S.Serve.seen
