use Rattle.index_tool.proofs.Judged.{checked, canon}
use Rattle.index_tool.proofs.tool.run.Goals as goal

pub returns-clause-checked : goal.returns-clause-checked
returns-clause-checked g c = λ is check. let t = c.run_told.ensures in checked _ _ _ _ _ _ _ _ _ _ t.0 t.1 t.2 is check

pub returns-clause-canon : goal.returns-clause-canon
returns-clause-canon g c = λ is command. let t = c.run_told.ensures in canon _ _ _ _ _ _ _ _ _ _ t.0 t.1 t.2 is command
