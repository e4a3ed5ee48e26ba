use Rattle.promises.specs.ServingPromise.Meanings.{cartridges}
use Rattle.run_laws.proofs.LogLaws.LogLaws.{logs_go_on}
use Rattle.run_laws.proofs.log_laws.laws.logs_go_on.Goals as goal

pub returns : goal.returns
returns g c = logs_go_on g.D.Drive cartridges
