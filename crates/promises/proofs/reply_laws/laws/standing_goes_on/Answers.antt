use Rattle.promises.proofs.ReplyLaws.Places.{standing_goes_on}
use Rattle.promises.proofs.reply_laws.laws.standing_goes_on.Goals as goal

pub returns : goal.returns
returns c = standing_goes_on
