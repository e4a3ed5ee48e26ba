use Rattle.cartridge_meaning.proofs.HonestTrials as trials
use Rattle.cartridge_meaning.proofs.examples.the_definitions_tell_honest_notes.Goals as goal

pub returns-clause-right : goal.returns-clause-right
returns-clause-right c = trials.right

pub returns-clause-behind : goal.returns-clause-behind
returns-clause-behind c = trials.behind

pub returns-clause-other_volume : goal.returns-clause-other_volume
returns-clause-other_volume c = trials.other_volume

pub returns-clause-ahead : goal.returns-clause-ahead
returns-clause-ahead c = trials.ahead

pub returns-clause-other_block : goal.returns-clause-other_block
returns-clause-other_block c = trials.other_block

pub returns-clause-other_generation : goal.returns-clause-other_generation
returns-clause-other_generation c = trials.other_generation

pub returns-clause-wrong_back : goal.returns-clause-wrong_back
returns-clause-wrong_back c = trials.wrong_back

pub returns-clause-blank : goal.returns-clause-blank
returns-clause-blank c = trials.blank
