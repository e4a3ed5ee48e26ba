use Rattle.std.proofs.Common.{rules}
use Rattle.tape_layout.proofs.PlacementPolicy.Follows.{found, goes_further, never_found}
use Rattle.tape_layout.proofs.placement.patterns.find.Goals as goal

pub loop-rest-preserved : goal.loop-rest-preserved
loop-rest-preserved c = (search rules, goes_further _ _ _ _ _ c.loop-rest.invariant.1 c.in-Stuck.ensures.walk c.in-Some.ensures.parts)

pub returns-in-None-clause-found : goal.returns-in-None-clause-found
returns-in-None-clause-found c = never_found _ _ _ c.loop-rest.invariant.1 c.in-Stuck.ensures.walk c.in-None.ensures.parts

pub returns-in_default : goal.returns-in_default
returns-in_default c = record { found = found _ _ _ c.follow.result c.loop-rest.invariant.1 c.follow.ensures.walk c.in_default.not-Stuck; shorter = c.follow.ensures.shorter }
