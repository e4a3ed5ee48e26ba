use Rattle.cartridge_meaning.proofs.Noted.{ahead_is_dishonest, block_told, generation_told, honest_noted, noted_coherent}
use Rattle.cartridge_meaning.proofs.laws.notes_tell_of_the_last_indexes.Goals as goal

pub returns-clause-generation : goal.returns-clause-generation
returns-clause-generation c = generation_told

pub returns-clause-block : goal.returns-clause-block
returns-clause-block c = block_told

pub returns-clause-ahead : goal.returns-clause-ahead
returns-clause-ahead c = ahead_is_dishonest

pub returns-clause-honest : goal.returns-clause-honest
returns-clause-honest c = honest_noted

pub returns-clause-coherent : goal.returns-clause-coherent
returns-clause-coherent c = noted_coherent
