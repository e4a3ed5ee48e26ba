use Rattle.std.proofs.Common.{arith, ℕ, List, refl, replicate, subst}
use Rattle.image_slots.specs.Blank.{IsBegun, IsBodied}
use Rattle.image_slots.specs.Pieces.{AreEmpty, HasFirst, IsPut}
use Rattle.image_slots.specs.Slots.{first_value}
use Rattle.image_slots.proofs.Blanks.{long_of, body_each, body_ends}
use Rattle.image_slots.proofs.Chains.{piece_of, ready_has}
use Rattle.image_slots.proofs.making.write_body.Goals as goal

pub returns : goal.returns
returns g c = piece_of g.B.ByteDisk HasFirst AreEmpty IsBegun IsBodied 1 first_value c.put.result c.args.disk.now c.put.new.disk
    body_each body_ends c.requires
    (subst (λ (l : List ℕ). IsPut g.B.ByteDisk 1 l c.put.result c.args.disk.now c.put.new.disk) c.value_of.ensures.value c.put.ensures)

pub put-requires-clause-within : goal.put-requires-clause-within
put-requires-clause-within g c = ready_has g.B.ByteDisk AreEmpty IsBegun c.args.disk.now 1 c.requires (λ cm h. omega (arith, long_of (replicate 257 0) cm refl h))
