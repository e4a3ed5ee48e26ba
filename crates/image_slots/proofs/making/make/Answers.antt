use Rattle.std.proofs.Common.{arith}
use Rattle.image_slots.specs.Pieces.{AreEmpty, HasFirst}
use Rattle.image_slots.proofs.Chains.{failed_piece, then_piece}
use Rattle.image_slots.proofs.making.make.Goals as goal

pub fill_up-requires : goal.fill_up-requires
fill_up-requires g c = c.in-Ok.ensures.ready

pub returns-in-Ok : goal.returns-in-Ok
returns-in-Ok g c = then_piece g.B.ByteDisk HasFirst AreEmpty c.in-Ok.ensures c.fill_up.ensures

pub returns-in-Err : goal.returns-in-Err
returns-in-Err g c = failed_piece g.B.ByteDisk HasFirst AreEmpty 4 8 (omega arith) c.in-Err.ensures
