use Rattle.promises.proofs.ServingPromise.ReplyFacts.{read_is, later_read_isnt, full_is, full_one_off_isnt, full_within_isnt, done_over_isnt, fault_is, fault_unowned_isnt, write_fault_isnt, drain_fault_is, void_sync_isnt}
use Rattle.promises.proofs.serving_promise.examples.the_definitions_tell_replies.Goals as goal

pub returns-clause-read_is : goal.returns-clause-read_is
returns-clause-read_is c = read_is

pub returns-clause-later_read_isnt : goal.returns-clause-later_read_isnt
returns-clause-later_read_isnt c = later_read_isnt

pub returns-clause-full_is : goal.returns-clause-full_is
returns-clause-full_is c = full_is

pub returns-clause-full_one_off_isnt : goal.returns-clause-full_one_off_isnt
returns-clause-full_one_off_isnt c = full_one_off_isnt

pub returns-clause-full_within_isnt : goal.returns-clause-full_within_isnt
returns-clause-full_within_isnt c = full_within_isnt

pub returns-clause-done_over_isnt : goal.returns-clause-done_over_isnt
returns-clause-done_over_isnt c = done_over_isnt

pub returns-clause-fault_is : goal.returns-clause-fault_is
returns-clause-fault_is c = fault_is

pub returns-clause-fault_unowned_isnt : goal.returns-clause-fault_unowned_isnt
returns-clause-fault_unowned_isnt c = fault_unowned_isnt

pub returns-clause-write_fault_isnt : goal.returns-clause-write_fault_isnt
returns-clause-write_fault_isnt c = write_fault_isnt

pub returns-clause-drain_fault_is : goal.returns-clause-drain_fault_is
returns-clause-drain_fault_is c = drain_fault_is

pub returns-clause-void_sync_isnt : goal.returns-clause-void_sync_isnt
returns-clause-void_sync_isnt c = void_sync_isnt
