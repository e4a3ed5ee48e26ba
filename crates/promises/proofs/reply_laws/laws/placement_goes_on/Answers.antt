use Rattle.promises.proofs.ReplyLaws.Places.{placement_goes_on}
use Rattle.promises.proofs.reply_laws.laws.placement_goes_on.Goals as goal

pub returns : goal.returns
returns c = placement_goes_on
