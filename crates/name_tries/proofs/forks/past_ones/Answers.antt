use Rattle.std.proofs.Common.{arith}
use Rattle.name_tries.proofs.forks.past_ones.Goals as goal

pub trail_past-trail-requires-clause-on : goal.trail_past-trail-requires-clause-on
trail_past-trail-requires-clause-on c = (c.requires.0, c.loop-place.invariant.0 c.requires.0 c.requires.1)

pub returns-then-not-trail-clause-towards : goal.returns-then-not-trail-clause-towards
returns-then-not-trail-clause-towards c = λ t on. c.trail_past-trail.ensures.towards t (c.loop-place.invariant.0 t on)

pub loop-place-preserved : goal.loop-place-preserved
loop-place-preserved c = (
  λ t on. c.trail_past-trail.ensures.towards t (c.loop-place.invariant.0 t on),
  omega (arith, c.trail_past-trail.ensures.less, c.loop-place.invariant.1),
)
