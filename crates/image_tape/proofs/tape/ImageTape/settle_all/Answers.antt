use Rattle.std.proofs.Common.{arith}
use Rattle.image_tape.proofs.Wholes.{stored_after, not_stored}
use Rattle.image_tape.proofs.tape.ImageTape.settle_all.Goals as goal

pub returns-in-Ok-clause-stored : goal.returns-in-Ok-clause-stored
returns-in-Ok-clause-stored g c = stored_after g.B.ByteDisk c.count_all.result 2 6 c.args.self.now c.store.new.self c.count_all.new.self c.in-Ok.ensures.looks c.count_all.ensures.stored

pub returns-in-Err-clause-stored : goal.returns-in-Err-clause-stored
returns-in-Err-clause-stored g c = not_stored g.B.ByteDisk c.in-Err.why 2 8 c.args.self.now c.store.new.self (omega arith) c.store.ensures.looks
