use Rattle.image_slots.proofs.Chains.{put_fails, put_synced}
use Rattle.image_slots.proofs.pieces.put.Goals as goal

pub returns-in-Ok : goal.returns-in-Ok
returns-in-Ok g c = put_synced g.B.ByteDisk c.args.at c.args.bytes.now c.args.disk.now c.write.new.self c.requires.within c.sync.result c.sync.new.self
    c.in-Ok.ensures.told c.in-Ok.ensures.untold c.in-Ok.ensures.count c.in-Ok.ensures.cause.later c.in-Ok.ensures.crash
    c.sync.ensures.sure c.sync.ensures.held c.sync.ensures.count c.sync.ensures.cause c.sync.ensures.crash

pub returns-in-Err : goal.returns-in-Err
returns-in-Err g c = put_fails g.B.ByteDisk c.args.at c.args.bytes.now c.args.disk.now c.write.new.self c.requires.within _
    c.in-Err.ensures.told c.in-Err.ensures.untold c.in-Err.ensures.count c.in-Err.ensures.cause c.in-Err.ensures.crash
