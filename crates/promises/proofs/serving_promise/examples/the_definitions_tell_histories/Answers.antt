use Rattle.promises.proofs.ServingPromise.HistoryFacts.{first_read, second_read, both_stored, end_after, filled, not_on_yet, not_before_its_place, ip_before_flush_isnt, standing_is, other_bytes_isnt}
use Rattle.promises.proofs.serving_promise.examples.the_definitions_tell_histories.Goals as goal

pub returns-clause-first_read : goal.returns-clause-first_read
returns-clause-first_read c = first_read

pub returns-clause-second_read : goal.returns-clause-second_read
returns-clause-second_read c = second_read

pub returns-clause-both_stored : goal.returns-clause-both_stored
returns-clause-both_stored c = both_stored

pub returns-clause-end_after : goal.returns-clause-end_after
returns-clause-end_after c = end_after

pub returns-clause-filled : goal.returns-clause-filled
returns-clause-filled c = filled

pub returns-clause-not_on_yet : goal.returns-clause-not_on_yet
returns-clause-not_on_yet c = not_on_yet

pub returns-clause-not_before_its_place : goal.returns-clause-not_before_its_place
returns-clause-not_before_its_place c = not_before_its_place

pub returns-clause-ip_before_flush_isnt : goal.returns-clause-ip_before_flush_isnt
returns-clause-ip_before_flush_isnt c = ip_before_flush_isnt

pub returns-clause-standing_is : goal.returns-clause-standing_is
returns-clause-standing_is c = standing_is

pub returns-clause-other_bytes_isnt : goal.returns-clause-other_bytes_isnt
returns-clause-other_bytes_isnt c = other_bytes_isnt
