use Rattle.image_tape.proofs.First.{opened_first, refused_first, refused_header}
use Rattle.image_tape.proofs.tape.ImageTape.open.Goals as goal

pub returns-in-Ok-clause-opened : goal.returns-in-Ok-clause-opened
returns-in-Ok-clause-opened g c = opened_first g.B.ByteDisk c.args.room.limits c.args.disk _ _ c.in-Ok.ensures.found c.read_all.result c.read_all.ensures.opened

pub returns-in-Ok-clause-refused : goal.returns-in-Ok-clause-refused
returns-in-Ok-clause-refused g c =
    refused_first g.B.ByteDisk c.args.room.limits (λ f. f.why) (λ f. f.disk) c.args.disk _ _ c.in-Ok.ensures.found c.read_all.result c.read_all.ensures.refused

pub returns-in-Err-clause-refused : goal.returns-in-Err-clause-refused
returns-in-Err-clause-refused g c =
    refused_header g.B.ByteDisk c.args.room.limits c.in-Err.fail.why c.args.disk c.in-Err.fail.disk c.faults-before.result c.faults-after.result c.header_fault.result
    c.in-Err.ensures.refused c.faults-before.ensures c.faults-after.ensures c.header_fault.ensures
