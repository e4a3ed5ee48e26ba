use Rattle.promises.proofs.ServingPromise.TurnFacts.{flush_turn_is, ack_early_turn_isnt, mark_missing_turn_isnt, on_missing_turn_isnt, rest_turn_is, drain_is, drain_at_64_isnt, sync_told_is, reply_changed_isnt, sync_is, syncs_first_isnt, write_waits_isnt, read_syncs_isnt, no_command_isnt, fewer_faults_isnt, on_tape_is, other_on_tape_isnt}
use Rattle.promises.proofs.serving_promise.examples.the_definitions_tell_turns.Goals as goal

pub returns-clause-flush_turn_is : goal.returns-clause-flush_turn_is
returns-clause-flush_turn_is c = flush_turn_is

pub returns-clause-ack_early_turn_isnt : goal.returns-clause-ack_early_turn_isnt
returns-clause-ack_early_turn_isnt c = ack_early_turn_isnt

pub returns-clause-mark_missing_turn_isnt : goal.returns-clause-mark_missing_turn_isnt
returns-clause-mark_missing_turn_isnt c = mark_missing_turn_isnt

pub returns-clause-on_missing_turn_isnt : goal.returns-clause-on_missing_turn_isnt
returns-clause-on_missing_turn_isnt c = on_missing_turn_isnt

pub returns-clause-rest_turn_is : goal.returns-clause-rest_turn_is
returns-clause-rest_turn_is c = rest_turn_is

pub returns-clause-drain_is : goal.returns-clause-drain_is
returns-clause-drain_is c = drain_is

pub returns-clause-drain_at_64_isnt : goal.returns-clause-drain_at_64_isnt
returns-clause-drain_at_64_isnt c = drain_at_64_isnt

pub returns-clause-sync_told_is : goal.returns-clause-sync_told_is
returns-clause-sync_told_is c = sync_told_is

pub returns-clause-reply_changed_isnt : goal.returns-clause-reply_changed_isnt
returns-clause-reply_changed_isnt c = reply_changed_isnt

pub returns-clause-sync_is : goal.returns-clause-sync_is
returns-clause-sync_is c = sync_is

pub returns-clause-syncs_first_isnt : goal.returns-clause-syncs_first_isnt
returns-clause-syncs_first_isnt c = syncs_first_isnt

pub returns-clause-write_waits_isnt : goal.returns-clause-write_waits_isnt
returns-clause-write_waits_isnt c = write_waits_isnt

pub returns-clause-read_syncs_isnt : goal.returns-clause-read_syncs_isnt
returns-clause-read_syncs_isnt c = read_syncs_isnt

pub returns-clause-no_command_isnt : goal.returns-clause-no_command_isnt
returns-clause-no_command_isnt c = no_command_isnt

pub returns-clause-fewer_faults_isnt : goal.returns-clause-fewer_faults_isnt
returns-clause-fewer_faults_isnt c = fewer_faults_isnt

pub returns-clause-on_tape_is : goal.returns-clause-on_tape_is
returns-clause-on_tape_is c = on_tape_is

pub returns-clause-other_on_tape_isnt : goal.returns-clause-other_on_tape_isnt
returns-clause-other_on_tape_isnt c = other_on_tape_isnt
