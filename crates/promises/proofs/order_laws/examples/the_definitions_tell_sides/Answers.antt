use Rattle.promises.proofs.OrderLaws.TrialFacts.{waits_still_is, flush_is, before_flush_isnt, other_reply_isnt, no_reply_isnt, early_reply_isnt, fault_is, other_fault_isnt, synced_though_failed_isnt, fault_of_nobody_isnt, rise_is, no_rise_isnt, lost_fault_isnt, at_once_is, done_at_once_isnt, fault_at_once_isnt, waits_isnt, ready_while_waiting_isnt, moment_is}
use Rattle.promises.proofs.order_laws.examples.the_definitions_tell_sides.Goals as goal

pub returns-clause-flush_is : goal.returns-clause-flush_is
returns-clause-flush_is c = flush_is

pub returns-clause-before_flush_isnt : goal.returns-clause-before_flush_isnt
returns-clause-before_flush_isnt c = before_flush_isnt

pub returns-clause-other_reply_isnt : goal.returns-clause-other_reply_isnt
returns-clause-other_reply_isnt c = other_reply_isnt

pub returns-clause-no_reply_isnt : goal.returns-clause-no_reply_isnt
returns-clause-no_reply_isnt c = no_reply_isnt

pub returns-clause-early_reply_isnt : goal.returns-clause-early_reply_isnt
returns-clause-early_reply_isnt c = early_reply_isnt

pub returns-clause-fault_is : goal.returns-clause-fault_is
returns-clause-fault_is c = fault_is

pub returns-clause-other_fault_isnt : goal.returns-clause-other_fault_isnt
returns-clause-other_fault_isnt c = other_fault_isnt

pub returns-clause-synced_though_failed_isnt : goal.returns-clause-synced_though_failed_isnt
returns-clause-synced_though_failed_isnt c = synced_though_failed_isnt

pub returns-clause-fault_of_nobody_isnt : goal.returns-clause-fault_of_nobody_isnt
returns-clause-fault_of_nobody_isnt c = fault_of_nobody_isnt

pub returns-clause-rise_is : goal.returns-clause-rise_is
returns-clause-rise_is c = rise_is

pub returns-clause-no_rise_isnt : goal.returns-clause-no_rise_isnt
returns-clause-no_rise_isnt c = no_rise_isnt

pub returns-clause-lost_fault_isnt : goal.returns-clause-lost_fault_isnt
returns-clause-lost_fault_isnt c = lost_fault_isnt

pub returns-clause-at_once_is : goal.returns-clause-at_once_is
returns-clause-at_once_is c = at_once_is

pub returns-clause-done_at_once_isnt : goal.returns-clause-done_at_once_isnt
returns-clause-done_at_once_isnt c = done_at_once_isnt

pub returns-clause-fault_at_once_isnt : goal.returns-clause-fault_at_once_isnt
returns-clause-fault_at_once_isnt c = fault_at_once_isnt

pub returns-clause-waits_isnt : goal.returns-clause-waits_isnt
returns-clause-waits_isnt c = waits_isnt

pub returns-clause-ready_while_waiting_isnt : goal.returns-clause-ready_while_waiting_isnt
returns-clause-ready_while_waiting_isnt c = ready_while_waiting_isnt

pub returns-clause-moment_is : goal.returns-clause-moment_is
returns-clause-moment_is c = moment_is

pub returns-clause-waits_still_is : goal.returns-clause-waits_still_is
returns-clause-waits_still_is c = waits_still_is
