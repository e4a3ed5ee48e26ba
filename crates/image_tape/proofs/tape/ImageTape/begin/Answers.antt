use Rattle.std.proofs.Common.{arith}
use Rattle.image_tape.proofs.Surely.{more_looks, then_looks}
use Rattle.image_tape.proofs.tape.ImageTape.begin.Goals as goal

pub returns-in-Ok-clause-looks : goal.returns-in-Ok-clause-looks
returns-in-Ok-clause-looks g c = then_looks g.B.ByteDisk 1 2 _ _ _ c.measure.ensures.looks c.settle.ensures.looks

pub returns-in-Err-clause-looks : goal.returns-in-Err-clause-looks
returns-in-Err-clause-looks g c = more_looks g.B.ByteDisk 1 3 _ _ (omega arith) c.measure.ensures.looks
