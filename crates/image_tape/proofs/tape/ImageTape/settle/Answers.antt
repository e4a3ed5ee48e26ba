use Rattle.std.proofs.Common.{arith}
use Rattle.image_tape.proofs.Surely.{more_looks, no_looks, then_looks}
use Rattle.image_tape.proofs.tape.ImageTape.settle.Goals as goal

pub returns-in-Settled-clause-looks : goal.returns-in-Settled-clause-looks
returns-in-Settled-clause-looks g c = more_looks g.B.ByteDisk 0 2 _ _ (omega arith) (no_looks g.B.ByteDisk _)

pub returns-in-Ok-clause-looks : goal.returns-in-Ok-clause-looks
returns-in-Ok-clause-looks g c = then_looks g.B.ByteDisk 2 0 _ _ _ c.recover.ensures.looks c.choose.ensures.looks
