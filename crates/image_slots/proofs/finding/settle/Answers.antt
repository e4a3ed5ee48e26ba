use Rattle.image_slots.proofs.Opened.{settle_fails, settled, settled_sure}
use Rattle.image_slots.proofs.finding.settle.Goals as goal

pub returns-in-Ok-clause-look : goal.returns-in-Ok-clause-look
returns-in-Ok-clause-look g c = settled g.B.ByteDisk c.look.result c.args.disk.now c.sync.new.self c.look.new.disk
    c.in-Ok.ensures.held c.in-Ok.ensures.count c.in-Ok.ensures.cause.later c.in-Ok.ensures.crash c.look.ensures

pub returns-in-Ok-clause-sure : goal.returns-in-Ok-clause-sure
returns-in-Ok-clause-sure g c = settled_sure g.B.ByteDisk c.look.result c.sync.new.self c.look.new.disk c.in-Ok.ensures.sure c.look.ensures

pub returns-in-Err-clause-look : goal.returns-in-Err-clause-look
returns-in-Err-clause-look g c = settle_fails g.B.ByteDisk _ c.args.disk.now c.sync.new.self
    c.in-Err.ensures.held c.in-Err.ensures.count c.in-Err.ensures.cause c.in-Err.ensures.crash
