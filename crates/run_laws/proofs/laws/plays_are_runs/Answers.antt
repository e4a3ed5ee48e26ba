use Rattle.run_laws.proofs.Runs.{plays_are_runs}
use Rattle.run_laws.proofs.laws.plays_are_runs.Goals as goal

pub returns : goal.returns
returns g c = plays_are_runs g.D.Drive
