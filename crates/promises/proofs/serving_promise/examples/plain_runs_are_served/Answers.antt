use Rattle.promises.proofs.ServingPromise.PlainLaw.{replies_are_plain, plain_replies_are}
use Rattle.promises.proofs.serving_promise.examples.plain_runs_are_served.Goals as goal

pub returns-clause-replies_are_plain : goal.returns-clause-replies_are_plain
returns-clause-replies_are_plain c = replies_are_plain

pub returns-clause-plain_replies_are : goal.returns-clause-plain_replies_are
returns-clause-plain_replies_are c = plain_replies_are
