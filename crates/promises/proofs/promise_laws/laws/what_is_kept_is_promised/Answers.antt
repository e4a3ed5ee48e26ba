use Rattle.promises.proofs.PromiseLaws.Joined.{kept_is_promised}
use Rattle.promises.proofs.promise_laws.laws.what_is_kept_is_promised.Goals as goal

pub returns : goal.returns
returns g c = kept_is_promised g.D.Drive
