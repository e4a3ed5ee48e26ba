use Rattle.promises.proofs.ServingPromise.SealedFacts.{sealed_is, untold_is, another_generation_isnt, with_command_isnt, another_cartridge_isnt, unsure_isnt, full_isnt, fault_isnt, no_memory_isnt, without_index_isnt}
use Rattle.promises.proofs.serving_promise.examples.the_definitions_tell_sealed_closes.Goals as goal

pub returns-clause-sealed_is : goal.returns-clause-sealed_is
returns-clause-sealed_is c = sealed_is

pub returns-clause-untold_is : goal.returns-clause-untold_is
returns-clause-untold_is c = untold_is

pub returns-clause-another_generation_isnt : goal.returns-clause-another_generation_isnt
returns-clause-another_generation_isnt c = another_generation_isnt

pub returns-clause-with_command_isnt : goal.returns-clause-with_command_isnt
returns-clause-with_command_isnt c = with_command_isnt

pub returns-clause-another_cartridge_isnt : goal.returns-clause-another_cartridge_isnt
returns-clause-another_cartridge_isnt c = another_cartridge_isnt

pub returns-clause-unsure_isnt : goal.returns-clause-unsure_isnt
returns-clause-unsure_isnt c = unsure_isnt

pub returns-clause-full_isnt : goal.returns-clause-full_isnt
returns-clause-full_isnt c = full_isnt

pub returns-clause-fault_isnt : goal.returns-clause-fault_isnt
returns-clause-fault_isnt c = fault_isnt

pub returns-clause-no_memory_isnt : goal.returns-clause-no_memory_isnt
returns-clause-no_memory_isnt c = no_memory_isnt

pub returns-clause-without_index_isnt : goal.returns-clause-without_index_isnt
returns-clause-without_index_isnt c = without_index_isnt
