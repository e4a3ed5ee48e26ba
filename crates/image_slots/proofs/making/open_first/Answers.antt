use Rattle.std.proofs.Common.{arith, [], ◌∷◌}
use Rattle.image_slots.specs.Blank.{IsBodied, IsGated}
use Rattle.image_slots.specs.Pieces.{AreEmpty, HasFirst}
use Rattle.image_slots.proofs.Blanks.{gate_each, gate_ends}
use Rattle.image_slots.proofs.Chains.{piece_of, ready_has}
use Rattle.image_slots.proofs.making.open_first.Goals as goal

pub returns : goal.returns
returns g c = piece_of g.B.ByteDisk HasFirst AreEmpty IsBodied IsGated 0 (1 ∷ []) c.put.result c.args.disk.now c.put.new.disk
    gate_each gate_ends c.requires c.put.ensures

pub put-requires-clause-within : goal.put-requires-clause-within
put-requires-clause-within g c = ready_has g.B.ByteDisk AreEmpty IsBodied c.args.disk.now 0 c.requires (λ cm h. omega arith)
