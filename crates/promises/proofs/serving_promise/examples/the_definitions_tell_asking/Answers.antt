use Rattle.promises.proofs.ServingPromise.AskingFacts.{block_of_write_isnt, late_write_isnt, blocks_are, unneeded_block_isnt, drained_write_is, sync_before_op_isnt, unasked_block_isnt}
use Rattle.promises.proofs.serving_promise.examples.the_definitions_tell_asking.Goals as goal

pub returns-clause-block_of_write_isnt : goal.returns-clause-block_of_write_isnt
returns-clause-block_of_write_isnt c = block_of_write_isnt

pub returns-clause-late_write_isnt : goal.returns-clause-late_write_isnt
returns-clause-late_write_isnt c = late_write_isnt

pub returns-clause-blocks_are : goal.returns-clause-blocks_are
returns-clause-blocks_are c = blocks_are

pub returns-clause-unneeded_block_isnt : goal.returns-clause-unneeded_block_isnt
returns-clause-unneeded_block_isnt c = unneeded_block_isnt

pub returns-clause-drained_write_is : goal.returns-clause-drained_write_is
returns-clause-drained_write_is c = drained_write_is

pub returns-clause-sync_before_op_isnt : goal.returns-clause-sync_before_op_isnt
returns-clause-sync_before_op_isnt c = sync_before_op_isnt

pub returns-clause-unasked_block_isnt : goal.returns-clause-unasked_block_isnt
returns-clause-unasked_block_isnt c = unasked_block_isnt
