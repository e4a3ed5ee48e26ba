use Rattle.promises.proofs.ServingPromise.LogFacts.{acks_are, ack_of_another_isnt, ack_missing_isnt, ack_added, ack_early_isnt, told_of_fault, told_another, rises, rises_twice_isnt, phases, marks_of_history, drains_then_places, waits_still, mark_missing_isnt, text_is, before_the_flush, drain_told, drain_told_done, told_as_owned, flushes_are, syncs_are, sync_of_read_isnt}
use Rattle.promises.proofs.serving_promise.examples.the_definitions_tell_logs.Goals as goal

pub returns-clause-acks_are : goal.returns-clause-acks_are
returns-clause-acks_are c = acks_are

pub returns-clause-ack_of_another_isnt : goal.returns-clause-ack_of_another_isnt
returns-clause-ack_of_another_isnt c = ack_of_another_isnt

pub returns-clause-ack_missing_isnt : goal.returns-clause-ack_missing_isnt
returns-clause-ack_missing_isnt c = ack_missing_isnt

pub returns-clause-ack_added : goal.returns-clause-ack_added
returns-clause-ack_added c = ack_added

pub returns-clause-ack_early_isnt : goal.returns-clause-ack_early_isnt
returns-clause-ack_early_isnt c = ack_early_isnt

pub returns-clause-told_of_fault : goal.returns-clause-told_of_fault
returns-clause-told_of_fault c = told_of_fault

pub returns-clause-told_another : goal.returns-clause-told_another
returns-clause-told_another c = told_another

pub returns-clause-rises : goal.returns-clause-rises
returns-clause-rises c = rises

pub returns-clause-rises_twice_isnt : goal.returns-clause-rises_twice_isnt
returns-clause-rises_twice_isnt c = rises_twice_isnt

pub returns-clause-phases : goal.returns-clause-phases
returns-clause-phases c = phases

pub returns-clause-marks_of_history : goal.returns-clause-marks_of_history
returns-clause-marks_of_history c = marks_of_history

pub returns-clause-drains_then_places : goal.returns-clause-drains_then_places
returns-clause-drains_then_places c = drains_then_places

pub returns-clause-waits_still : goal.returns-clause-waits_still
returns-clause-waits_still c = waits_still

pub returns-clause-mark_missing_isnt : goal.returns-clause-mark_missing_isnt
returns-clause-mark_missing_isnt c = mark_missing_isnt

pub returns-clause-text_is : goal.returns-clause-text_is
returns-clause-text_is c = text_is

pub returns-clause-before_the_flush : goal.returns-clause-before_the_flush
returns-clause-before_the_flush c = before_the_flush

pub returns-clause-drain_told : goal.returns-clause-drain_told
returns-clause-drain_told c = drain_told

pub returns-clause-drain_told_done : goal.returns-clause-drain_told_done
returns-clause-drain_told_done c = drain_told_done

pub returns-clause-told_as_owned : goal.returns-clause-told_as_owned
returns-clause-told_as_owned c = told_as_owned

pub returns-clause-flushes_are : goal.returns-clause-flushes_are
returns-clause-flushes_are c = flushes_are

pub returns-clause-syncs_are : goal.returns-clause-syncs_are
returns-clause-syncs_are c = syncs_are

pub returns-clause-sync_of_read_isnt : goal.returns-clause-sync_of_read_isnt
returns-clause-sync_of_read_isnt c = sync_of_read_isnt
