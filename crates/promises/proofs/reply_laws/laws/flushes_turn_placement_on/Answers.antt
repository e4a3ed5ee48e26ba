use Rattle.promises.proofs.ReplyLaws.Truths.{flushes_turn_placement_on}
use Rattle.promises.proofs.reply_laws.laws.flushes_turn_placement_on.Goals as goal

pub returns : goal.returns
returns g c = flushes_turn_placement_on g.S.Serve.seen
