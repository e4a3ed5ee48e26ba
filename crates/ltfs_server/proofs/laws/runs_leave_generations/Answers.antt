use Rattle.ltfs_server.proofs.Generations.{runs_leave_generations}
use Rattle.ltfs_server.proofs.laws.runs_leave_generations.Goals as goal

pub returns : goal.returns
returns g c = runs_leave_generations g.D.Drive
