use Rattle.std.proofs.Common.{arith}
use Rattle.image_tape.proofs.Surely.{more_looks, then_looks}
use Rattle.image_tape.proofs.Wholes.{both_stored}
use Rattle.image_tape.proofs.tape.ImageTape.store.Goals as goal

pub returns-in-Ok-clause-looks : goal.returns-in-Ok-clause-looks
returns-in-Ok-clause-looks g c = then_looks g.B.ByteDisk 1 1 _ _ _ c.store_part.ensures.looks c.store_part-in-Ok.ensures.looks

pub returns-in-Ok-clause-sure : goal.returns-in-Ok-clause-sure
returns-in-Ok-clause-sure g c =
    both_stored g.B.ByteDisk c.store_part.new.self c.store_part-in-Ok.new.self c.store_part-in-Ok.result c.in-Ok.ensures.sure c.store_part-in-Ok.ensures.held c.store_part-in-Ok.ensures.left c.store_part-in-Ok.ensures.sure

pub returns-in-Err-clause-looks : goal.returns-in-Err-clause-looks
returns-in-Err-clause-looks g c = more_looks g.B.ByteDisk 1 2 _ _ (omega arith) c.store_part.ensures.looks
