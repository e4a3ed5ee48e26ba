use Rattle.promises.proofs.ReplyLaws.Draining.{drains_stay_for_writes}
use Rattle.promises.proofs.reply_laws.laws.drains_stay_for_writes.Goals as goal

pub returns : goal.returns
returns g c = drains_stay_for_writes g.S.Serve.seen
