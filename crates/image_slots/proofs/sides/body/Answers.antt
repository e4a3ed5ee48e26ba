use Rattle.std.proofs.Common.{ap, sym}
use Rattle.image_slots.specs.Sides.{value_at}
use Rattle.image_slots.specs.declared.sides.Side.{Side}
use Rattle.image_slots.proofs.sides.body.Goals as goal

pub returns-in-Second-clause-value : goal.returns-in-Second-clause-value
returns-in-Second-clause-value c = sym (ap (λ (s : Side). value_at s c.args.header.now) c.in-Second.is)
