use Rattle.promises.proofs.ReplyLaws.AskSubmits.{queue_their_ops}
use Rattle.promises.proofs.reply_laws.asks.submissions_queue_their_ops.Goals as goal

pub returns : goal.returns
returns c = queue_their_ops
