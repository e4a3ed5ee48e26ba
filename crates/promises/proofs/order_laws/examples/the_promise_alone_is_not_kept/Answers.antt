use Rattle.promises.proofs.OrderLaws.TrialFacts.{orderly_is, kept_isnt}
use Rattle.promises.proofs.order_laws.examples.the_promise_alone_is_not_kept.Goals as goal

pub returns-clause-orderly_is : goal.returns-clause-orderly_is
returns-clause-orderly_is c = orderly_is

pub returns-clause-kept_isnt : goal.returns-clause-kept_isnt
returns-clause-kept_isnt c = kept_isnt
