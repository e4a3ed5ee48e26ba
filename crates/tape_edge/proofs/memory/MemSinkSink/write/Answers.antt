use Rattle.std.proofs.Common.{rules, inl, inr}
use Rattle.tape_edge.proofs.memory.MemSinkSink.write.Goals as goal

pub returns-then-contains-clause-exact : goal.returns-then-contains-clause-exact
returns-then-contains-clause-exact c = inl (search rules, search rules)

pub returns-in-Err-clause-exact : goal.returns-in-Err-clause-exact
returns-in-Err-clause-exact c = inr (search rules, search rules)
