use Rattle.promises.proofs.ReplyLaws.AskSubmits.{asking_begins}
use Rattle.promises.proofs.reply_laws.asks.asking_begins.Goals as goal

pub returns : goal.returns
returns g c = asking_begins g.S.Serve.seen
