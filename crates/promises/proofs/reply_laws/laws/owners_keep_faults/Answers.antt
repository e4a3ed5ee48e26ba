use Rattle.promises.proofs.ReplyLaws.Happened.{owners_keep_faults}
use Rattle.promises.proofs.reply_laws.laws.owners_keep_faults.Goals as goal

pub returns : goal.returns
returns c = owners_keep_faults
