use Rattle.std.proofs.Common.{Ok, Bool, sym, subst}
use Rattle.image_slots.specs.Calls.{AreMeasured}
use Rattle.image_slots.proofs.Opened.{both_measured, first_fails, second_fails}
use Rattle.image_slots.proofs.finding.are_empty.Goals as goal

pub returns-in-Ok-measure : goal.returns-in-Ok-measure
returns-in-Ok-measure g c = subst (λ (t : Bool). AreMeasured g.B.ByteDisk (Ok t) c.args.disk.now c.measure-in-Ok.new.disk) (sym c.are_zero.ensures)
    (both_measured g.B.ByteDisk c.in-Ok.ip c.in-Ok-measure.dp c.args.disk.now c.measure.new.disk c.measure-in-Ok.new.disk c.in-Ok.ensures c.in-Ok-measure.ensures)

pub returns-in-Err-measure : goal.returns-in-Err-measure
returns-in-Err-measure g c = second_fails g.B.ByteDisk c.in-Ok.ip _ c.args.disk.now c.measure.new.disk c.measure-in-Ok.new.disk c.in-Ok.ensures c.in-Err-measure.ensures

pub returns-in-Err : goal.returns-in-Err
returns-in-Err g c = first_fails g.B.ByteDisk _ c.args.disk.now c.measure.new.disk c.in-Err.ensures
