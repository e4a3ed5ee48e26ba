use Rattle.std.proofs.Common.{arith}
use Rattle.name_tries.proofs.forks.last_ones.Goals as goal

pub last_past-last-requires-clause-on : goal.last_past-last-requires-clause-on
last_past-last-requires-clause-on c = (c.requires.0, c.loop-place.invariant.0 c.requires.0 c.requires.1)

pub returns-then-not-took_one-clause-on : goal.returns-then-not-took_one-clause-on
returns-then-not-took_one-clause-on c = λ t on. c.last_past-last.ensures.on t (c.loop-place.invariant.0 t on)

pub loop-place-preserved : goal.loop-place-preserved
loop-place-preserved c = (
  λ t on. c.last_past-last.ensures.on t (c.loop-place.invariant.0 t on),
  omega (arith, c.last_past-last.ensures.less, c.loop-place.invariant.1),
)
