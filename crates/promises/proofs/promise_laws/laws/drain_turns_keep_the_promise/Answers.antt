use Rattle.promises.proofs.PromiseLaws.Joined.{drain_turns_keep_all}
use Rattle.promises.proofs.promise_laws.laws.drain_turns_keep_the_promise.Goals as goal

pub returns : goal.returns
returns g c = drain_turns_keep_all g.D.Drive g.met.D.Drive.only_now
