use Rattle.promises.proofs.ReplyLaws.AskLaws.{turns_ask_truly}
use Rattle.promises.proofs.reply_laws.asks.turns_ask_truly.Goals as goal

pub returns : goal.returns
returns g c = turns_ask_truly g.S.Serve.seen
