use Rattle.std.proofs.Common.{refl, replicate}
use Rattle.image_slots.specs.Blank.{IsGated, IsMade, bodied}
use Rattle.image_slots.specs.Pieces.{AreEmpty, HasFirst}
use Rattle.image_slots.proofs.Blanks.{long_of, rest_each, rest_ends}
use Rattle.image_slots.proofs.Chains.{piece_of, ready_has}
use Rattle.image_slots.proofs.making.write_rest.Goals as goal

pub returns : goal.returns
returns g c = piece_of g.B.ByteDisk HasFirst AreEmpty IsGated IsMade 257 (replicate 255 0) c.put.result c.args.disk.now c.put.new.disk
    rest_each rest_ends c.requires c.put.ensures

pub put-requires-clause-within : goal.put-requires-clause-within
put-requires-clause-within g c = ready_has g.B.ByteDisk AreEmpty IsGated c.args.disk.now 257 c.requires (λ cm h. long_of (bodied 1) cm refl h)
