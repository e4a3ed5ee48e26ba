use Rattle.volume_core.proofs.CostLemmas.{worked}
use Rattle.volume_core.proofs.costs.Walk.take_op.Goals as goal

pub returns : goal.returns
returns c =
    worked c.args.events.now c.args.at c.args.place c.args.self.now c.go.new.self c.to_op-taken.result
    c.is_last-flush.result
    c.requires.there c.requires.walked c.requires.allowed c.to_op-taken.ensures.value c.is_last-flush.ensures
    c.go.ensures
