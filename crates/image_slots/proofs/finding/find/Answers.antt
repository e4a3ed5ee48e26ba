use Rattle.std.proofs.Common.{arith}
use Rattle.image_slots.proofs.Opened.{measured_size, opens_after, opens_not}
use Rattle.image_slots.proofs.finding.find.Goals as goal

pub find_in-requires-clause-size : goal.find_in-requires-clause-size
find_in-requires-clause-size g c = measured_size g.B.ByteDisk c.in-Ok.count c.args.disk.now c.measure.new.disk c.in-Ok.ensures

pub find_in-requires-clause-sure : goal.find_in-requires-clause-sure
find_in-requires-clause-sure g c = c.in-Ok.ensures.sure

pub returns-in-Ok : goal.returns-in-Ok
returns-in-Ok g c = opens_after g.B.ByteDisk c.in-Ok.count c.find_in.result c.args.disk.now c.measure.new.disk c.find_in.new.disk c.in-Ok.ensures c.find_in.ensures

pub returns-in-Err : goal.returns-in-Err
returns-in-Err g c = opens_not g.B.ByteDisk 2 14 _ c.args.disk.now c.measure.new.disk (omega arith) c.in-Err.ensures.held c.in-Err.ensures.count c.in-Err.ensures.cause c.in-Err.ensures.crash
