use Rattle.tape_layout.proofs.PlacementPolicy.Computing.{same_match}
use Rattle.tape_layout.proofs.placement.patterns.matches.Goals as goal

pub returns-clause-value : goal.returns-clause-value
returns-clause-value c = same_match c.reaches_end.result c.args.pattern.now c.args.name.now c.reaches_end.ensures
