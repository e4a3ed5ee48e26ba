use Rattle.std.specs.Prelude.{None}
use Rattle.promises.specs.ServingPromise.Trials.{by_reference}
use Rattle.promises.specs.ServingPromise.Turning.{drive_at}
use Rattle.promises.proofs.ServingPromise.StartLaw.{begins_served}
use Rattle.promises.proofs.serving_promise.examples.a_volume_begins_served.Goals as goal

pub returns : goal.returns
returns c = begins_served by_reference (drive_at 0 None)
