use Rattle.image_slots.proofs.Opened.{opened_ready}
use Rattle.image_slots.proofs.slots.Slots.open.Goals as goal

pub over-requires : goal.over-requires
over-requires g c = opened_ready g.B.ByteDisk c.in-Ok.found c.args.disk c.find.new.disk c.in-Ok.ensures
