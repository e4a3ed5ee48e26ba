use Rattle.std.proofs.Common.{sym, ◌∙◌}
use Rattle.name_tries.proofs.LoopLemmas.{way_ends}
use Rattle.name_tries.proofs.forks.nearest.Goals as goal

pub returns-clause-number : goal.returns-clause-number
returns-clause-number c = λ t is.
    way_ends c.args.forks.now c.follow-trail.result.at c.args.name.now t c.in-Leaf.number (c.follow-trail.ensures.towards t is).at
    (sym c.target.ensures ∙ c.in-Leaf.is)

pub returns-clause-from : goal.returns-clause-from
returns-clause-from c = λ t is. (c.follow-trail.ensures.towards t is).fourth
