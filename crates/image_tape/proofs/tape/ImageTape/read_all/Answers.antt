use Rattle.std.proofs.Common.{refl}
use Rattle.image_tape.proofs.Beginning.{has_opened, is_refused}
use Rattle.image_tape.proofs.Wholes.{kept_at}
use Rattle.image_tape.proofs.tape.ImageTape.read_all.Goals as goal

pub returns-in-Ok-clause-opened : goal.returns-in-Ok-clause-opened
returns-in-Ok-clause-opened g c =
    has_opened g.B.ByteDisk c.args.room.limits c.args.slots.disk c.read_synced.new.slots c.read_synced.new.room c.in-Ok.value (g.B.ByteDisk.commands c.read_synced.new.slots.disk)
    c.over-tape.result c.over-tape.ensures (kept_at g.B.ByteDisk _ _ c.tape.view_is c.tape.invariant) refl c.in-Ok.ensures.limits c.in-Ok.ensures.looked c.in-Ok.ensures.held c.in-Ok.ensures.told

pub returns-in-Err-clause-refused : goal.returns-in-Err-clause-refused
returns-in-Err-clause-refused g c =
    is_refused g.B.ByteDisk c.args.room.limits c.args.slots.disk c.read_synced.new.slots.disk c.into_disk.result c.read_synced.new.room c.in-Err.why c.faults-before.result
    c.faults-after.result c.read_fault.result c.read_fault.ensures c.into_disk.ensures c.faults-before.ensures c.faults-after.ensures c.read_synced.ensures.faults
    c.read_synced.ensures.looked c.read_synced.ensures.held c.in-Err.ensures.told c.in-Err.ensures.cause
