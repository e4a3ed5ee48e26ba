use Rattle.run_laws.proofs.memory.runs_are_in_memory.Goals as goal

pub returns : goal.returns
returns c script at first now log run = run
