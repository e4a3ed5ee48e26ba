use Rattle.promises.proofs.ReplyLaws.AskLaws.{drain_turns_ask_truly}
use Rattle.promises.proofs.reply_laws.asks.drain_turns_ask_truly.Goals as goal

pub returns : goal.returns
returns g c = drain_turns_ask_truly g.S.Serve.seen
