use Rattle.std.proofs.Common.{refl}
use Rattle.image_slots.proofs.Opened.{look_fails, looked, whole_within}
use Rattle.image_slots.proofs.finding.look.Goals as goal

pub returns-in-Some : goal.returns-in-Some
returns-in-Some g c = looked g.B.ByteDisk _ c.read.new.buf c.args.disk.now c.read.new.self c.requires c.in-Ok.ensures.value
    c.in-Ok.ensures.held c.in-Ok.ensures.count c.in-Ok.ensures.cause.later c.in-Ok.ensures.crash c.in-Some.ensures.some tt

pub returns-in-None : goal.returns-in-None
returns-in-None g c = looked g.B.ByteDisk _ c.read.new.buf c.args.disk.now c.read.new.self c.requires c.in-Ok.ensures.value
    c.in-Ok.ensures.held c.in-Ok.ensures.count c.in-Ok.ensures.cause.later c.in-Ok.ensures.crash c.in-None.ensures.none refl

pub returns-in-Err : goal.returns-in-Err
returns-in-Err g c = look_fails g.B.ByteDisk _ c.args.disk.now c.read.new.self
    c.in-Err.ensures.held c.in-Err.ensures.count c.in-Err.ensures.cause c.in-Err.ensures.crash

pub read-requires : goal.read-requires
read-requires g c = record { within = whole_within (g.B.ByteDisk.held c.args.disk.now) 512 refl c.requires }
