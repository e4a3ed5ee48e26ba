use Rattle.std.proofs.Common.{arith, rules}
use Rattle.tape_layout.proofs.PlacementPolicy.Follows.{goes_on, short_text}
use Rattle.tape_layout.proofs.placement.patterns.follow.Goals as goal

pub returns-in_default-first_char-clause-walk : goal.returns-in_default-first_char-clause-walk
returns-in_default-first_char-clause-walk c = short_text _ _ _ _ _ _ c.loop-p.invariant.2 c.in-Some.ensures.parts c.in_default-first_char.ensures.parts c.if-p-eq42.false

pub loop-p-preserved : goal.loop-p-preserved
loop-p-preserved c = (
  search rules,
  search rules,
  goes_on _ _ _ _ _ _ _ _ c.loop-p.invariant.2 c.in-Some.ensures.parts c.in-Some-first_char.ensures.parts c.if-p-eq42.false c.else-p-ne63.either,
  omega (arith, c.in-Some.ensures.shorter, c.loop-p.invariant.3),
)
