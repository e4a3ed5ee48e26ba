use Rattle.std.proofs.Common.{arith, replicate}
use Rattle.image_slots.specs.Blank.{IsBegun, IsShort}
use Rattle.image_slots.specs.Pieces.{AreEmpty, HasFirst}
use Rattle.image_slots.proofs.Blanks.{clear_each, clear_ends}
use Rattle.image_slots.proofs.Chains.{piece_of, ready_has}
use Rattle.image_slots.proofs.making.clear.Goals as goal

pub returns : goal.returns
returns g c = piece_of g.B.ByteDisk HasFirst AreEmpty IsShort IsBegun 0 (replicate 257 0) c.put.result c.args.disk.now c.put.new.disk
    clear_each clear_ends c.requires c.put.ensures

pub put-requires-clause-within : goal.put-requires-clause-within
put-requires-clause-within g c = ready_has g.B.ByteDisk AreEmpty IsShort c.args.disk.now 0 c.requires (λ cm h. omega arith)
