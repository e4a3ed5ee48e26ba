use Rattle.promises.proofs.ServingPromise.CrashFacts.{acknowledged_is, acknowledged_early_isnt, acknowledged_late_isnt}
use Rattle.promises.proofs.ServingPromise.CrashFacts.{dishonest_before_isnt, left_before_isnt}
use Rattle.promises.proofs.serving_promise.examples.the_definitions_tell_crashes.Goals as goal

pub returns-clause-acknowledged_is : goal.returns-clause-acknowledged_is
returns-clause-acknowledged_is c = acknowledged_is

pub returns-clause-acknowledged_early_isnt : goal.returns-clause-acknowledged_early_isnt
returns-clause-acknowledged_early_isnt c = acknowledged_early_isnt

pub returns-clause-acknowledged_late_isnt : goal.returns-clause-acknowledged_late_isnt
returns-clause-acknowledged_late_isnt c = acknowledged_late_isnt

pub returns-clause-left_before_isnt : goal.returns-clause-left_before_isnt
returns-clause-left_before_isnt c = left_before_isnt

pub returns-clause-dishonest_before_isnt : goal.returns-clause-dishonest_before_isnt
returns-clause-dishonest_before_isnt c = dishonest_before_isnt
