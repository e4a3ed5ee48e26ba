use Rattle.promises.proofs.ServingPromise.CloseFacts.{full_is, full_with_command_isnt, done_is, another_generation_isnt, unsound_isnt, nodes_are, other_nodes_isnt, starts_is, other_moment_isnt, unlike_isnt, left_apart_is}
use Rattle.promises.proofs.serving_promise.examples.the_definitions_tell_closes.Goals as goal

pub returns-clause-full_is : goal.returns-clause-full_is
returns-clause-full_is c = full_is

pub returns-clause-full_with_command_isnt : goal.returns-clause-full_with_command_isnt
returns-clause-full_with_command_isnt c = full_with_command_isnt

pub returns-clause-done_is : goal.returns-clause-done_is
returns-clause-done_is c = done_is

pub returns-clause-another_generation_isnt : goal.returns-clause-another_generation_isnt
returns-clause-another_generation_isnt c = another_generation_isnt

pub returns-clause-unsound_isnt : goal.returns-clause-unsound_isnt
returns-clause-unsound_isnt c = unsound_isnt

pub returns-clause-nodes_are : goal.returns-clause-nodes_are
returns-clause-nodes_are c = nodes_are

pub returns-clause-other_nodes_isnt : goal.returns-clause-other_nodes_isnt
returns-clause-other_nodes_isnt c = other_nodes_isnt

pub returns-clause-starts_is : goal.returns-clause-starts_is
returns-clause-starts_is c = starts_is

pub returns-clause-other_moment_isnt : goal.returns-clause-other_moment_isnt
returns-clause-other_moment_isnt c = other_moment_isnt

pub returns-clause-unlike_isnt : goal.returns-clause-unlike_isnt
returns-clause-unlike_isnt c = unlike_isnt

pub returns-clause-left_apart_is : goal.returns-clause-left_apart_is
returns-clause-left_apart_is c = left_apart_is
