use Rattle.promises.proofs.ReplyLaws.Owned.{told_faults_are_owned}
use Rattle.promises.proofs.reply_laws.laws.told_faults_are_owned.Goals as goal

pub returns : goal.returns
returns c = told_faults_are_owned
