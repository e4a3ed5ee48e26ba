use Rattle.promises.proofs.ServingPromise.CacheLaws.{read_stays, steps_stay}
use Rattle.promises.proofs.serving_promise.keeping.kept_blocks_stay.Goals as goal

pub returns-clause-step : goal.returns-clause-step
returns-clause-step c = steps_stay

pub returns-clause-read : goal.returns-clause-read
returns-clause-read c = read_stays
