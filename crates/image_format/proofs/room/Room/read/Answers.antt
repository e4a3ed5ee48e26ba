use Rattle.std.proofs.Common.{◌≡◌, Some, None}
use Rattle.image_format.specs.Images.{header_by}
use Rattle.image_format.proofs.ReadLemmas.{blamed, read_found, read_refused}
use Rattle.image_format.proofs.room.Room.read.Goals as goal

pub returns-in-Ok-clause-told : goal.returns-in-Ok-clause-told
returns-in-Ok-clause-told g c = λ d held.
    read_found c.args.self.now.limits d c.in-Some.value (c.in-Some.ensures.said d held) (Unit {0}) c.in-Ok.field-0 c.walk_both.new.self
    (c.in-Ok.ensures.told d held)

pub returns-in-Err-clause-told : goal.returns-in-Err-clause-told
returns-in-Err-clause-told g c = λ d held.
    read_refused c.args.self.now.limits d c.in-Some.value (c.in-Some.ensures.said d held) (Unit {0}) c.in-Err.why c.walk_both.new.self
    (c.in-Err.ensures.told d held)

pub returns-in-Err-clause-cause : goal.returns-in-Err-clause-cause
returns-in-Err-clause-cause g c =
    blamed (header_by c.args.self.now.limits (Some c.args.slots.now.value) ≡ None) (g.B.ByteDisk.faults c.args.slots.now.disk)
    (g.B.ByteDisk.faults c.walk_both.new.slots.disk) c.in-Err.why c.in-Err.ensures.cause
