use Rattle.name_tries.proofs.KeyLemmas.{no_tries}
use Rattle.name_tries.proofs.tries.Tries.new.Goals as goal

pub returns-clause-are : goal.returns-clause-are
returns-clause-are c = no_tries c.new.result.items c.new-2.result.items c.new-3.result.items c.new-4.result.items c.new.ensures.items c.new-3.ensures.items
