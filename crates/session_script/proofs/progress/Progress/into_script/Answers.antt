use Rattle.session_script.proofs.Bounds.{few_calls}
use Rattle.session_script.proofs.progress.Progress.into_script.Goals as goal

pub returns-clause-few : goal.returns-clause-few
returns-clause-few c = few_calls c.self.inside.script c.self.invariant.bounded
