use Rattle.promises.proofs.PromiseLaws.Joined.{volumes_begin_kept}
use Rattle.promises.proofs.promise_laws.laws.volumes_begin_promised.Goals as goal

pub returns : goal.returns
returns g c = volumes_begin_kept g.D.Drive g.met.D.Drive.counts_now
