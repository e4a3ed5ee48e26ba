use Rattle.image_slots.proofs.Opened.{measure_fails, measured}
use Rattle.image_slots.proofs.finding.measure.Goals as goal

pub returns-in-Ok : goal.returns-in-Ok
returns-in-Ok g c = measured g.B.ByteDisk c.args.file c.length.result c.args.disk.now c.sync.new.self c.length.new.self
    c.in-Ok.ensures.sure c.in-Ok.ensures.held c.in-Ok.ensures.count c.in-Ok.ensures.cause.later c.in-Ok.ensures.crash
    c.length.ensures.value c.length.ensures.held c.length.ensures.count c.length.ensures.cause c.length.ensures.crash

pub returns-in-Err : goal.returns-in-Err
returns-in-Err g c = measure_fails g.B.ByteDisk c.args.file _ c.args.disk.now c.sync.new.self
    c.in-Err.ensures.held c.in-Err.ensures.count c.in-Err.ensures.cause c.in-Err.ensures.crash
