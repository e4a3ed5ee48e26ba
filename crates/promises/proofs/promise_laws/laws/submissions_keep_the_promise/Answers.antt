use Rattle.promises.proofs.PromiseLaws.Joined.{submissions_keep_all}
use Rattle.promises.proofs.promise_laws.laws.submissions_keep_the_promise.Goals as goal

pub returns : goal.returns
returns g c = submissions_keep_all g.D.Drive g.met.D.Drive.only_now
