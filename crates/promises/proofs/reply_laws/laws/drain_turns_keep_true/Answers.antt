use Rattle.promises.proofs.ReplyLaws.Waiting.{drain_turns_keep_true}
use Rattle.promises.proofs.reply_laws.laws.drain_turns_keep_true.Goals as goal

pub returns : goal.returns
returns g c = drain_turns_keep_true g.S.Serve.seen
