use Rattle.image_format.proofs.room.Room.walk.Goals as goal

pub returns-in-Ip-clause-cause : goal.returns-in-Ip-clause-cause
returns-in-Ip-clause-cause g c =
    c.answered.ensures.cause (g.B.ByteDisk.faults c.args.slots.now.disk) (g.B.ByteDisk.faults c.walk.new.slots.disk) c.walk.ensures.cause

pub returns-in-Dp-clause-cause : goal.returns-in-Dp-clause-cause
returns-in-Dp-clause-cause g c =
    c.answered-in-Dp.ensures.cause (g.B.ByteDisk.faults c.args.slots.now.disk) (g.B.ByteDisk.faults c.walk-in-Dp.new.slots.disk)
    c.walk-in-Dp.ensures.cause
