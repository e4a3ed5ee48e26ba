use Rattle.promises.proofs.OrderLaws.TrialFacts.{served_is, later_number_isnt, call_too_many_isnt, other_moment_isnt, rest_alone_isnt, op_left_isnt, waits_for_nothing_isnt, answered_early_isnt, sync_of_nobody_isnt, ack_of_nothing_isnt, untold_ack_isnt, untold_fault_isnt, fewer_faults_isnt, mark_missing_isnt, stranger_isnt, other_hand_isnt, drains_alone_isnt, drain_unmarked_isnt, smaller_drive_isnt, told_later_isnt}
use Rattle.promises.proofs.order_laws.examples.the_definitions_tell_order.Goals as goal

pub returns-clause-served_is : goal.returns-clause-served_is
returns-clause-served_is c = served_is

pub returns-clause-later_number_isnt : goal.returns-clause-later_number_isnt
returns-clause-later_number_isnt c = later_number_isnt

pub returns-clause-call_too_many_isnt : goal.returns-clause-call_too_many_isnt
returns-clause-call_too_many_isnt c = call_too_many_isnt

pub returns-clause-other_moment_isnt : goal.returns-clause-other_moment_isnt
returns-clause-other_moment_isnt c = other_moment_isnt

pub returns-clause-rest_alone_isnt : goal.returns-clause-rest_alone_isnt
returns-clause-rest_alone_isnt c = rest_alone_isnt

pub returns-clause-op_left_isnt : goal.returns-clause-op_left_isnt
returns-clause-op_left_isnt c = op_left_isnt

pub returns-clause-waits_for_nothing_isnt : goal.returns-clause-waits_for_nothing_isnt
returns-clause-waits_for_nothing_isnt c = waits_for_nothing_isnt

pub returns-clause-answered_early_isnt : goal.returns-clause-answered_early_isnt
returns-clause-answered_early_isnt c = answered_early_isnt

pub returns-clause-sync_of_nobody_isnt : goal.returns-clause-sync_of_nobody_isnt
returns-clause-sync_of_nobody_isnt c = sync_of_nobody_isnt

pub returns-clause-ack_of_nothing_isnt : goal.returns-clause-ack_of_nothing_isnt
returns-clause-ack_of_nothing_isnt c = ack_of_nothing_isnt

pub returns-clause-untold_ack_isnt : goal.returns-clause-untold_ack_isnt
returns-clause-untold_ack_isnt c = untold_ack_isnt

pub returns-clause-untold_fault_isnt : goal.returns-clause-untold_fault_isnt
returns-clause-untold_fault_isnt c = untold_fault_isnt

pub returns-clause-fewer_faults_isnt : goal.returns-clause-fewer_faults_isnt
returns-clause-fewer_faults_isnt c = fewer_faults_isnt

pub returns-clause-mark_missing_isnt : goal.returns-clause-mark_missing_isnt
returns-clause-mark_missing_isnt c = mark_missing_isnt

pub returns-clause-stranger_isnt : goal.returns-clause-stranger_isnt
returns-clause-stranger_isnt c = stranger_isnt

pub returns-clause-other_hand_isnt : goal.returns-clause-other_hand_isnt
returns-clause-other_hand_isnt c = other_hand_isnt

pub returns-clause-drains_alone_isnt : goal.returns-clause-drains_alone_isnt
returns-clause-drains_alone_isnt c = drains_alone_isnt

pub returns-clause-drain_unmarked_isnt : goal.returns-clause-drain_unmarked_isnt
returns-clause-drain_unmarked_isnt c = drain_unmarked_isnt

pub returns-clause-smaller_drive_isnt : goal.returns-clause-smaller_drive_isnt
returns-clause-smaller_drive_isnt c = smaller_drive_isnt

pub returns-clause-told_later_isnt : goal.returns-clause-told_later_isnt
returns-clause-told_later_isnt c = told_later_isnt
