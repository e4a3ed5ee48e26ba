use Rattle.std.proofs.Common.{◌∙◌, arith}
use Rattle.image_tape.proofs.Ending.{early_then, flushed_badly, flushed_not, flushed_well, head_in}
use Rattle.image_tape.proofs.Heads.{head_stays}
use Rattle.image_tape.proofs.commands.ImageTapeDrive.flush.Goals as goal

pub returns-in-Ok-settle_all-clause-flushed : goal.returns-in-Ok-settle_all-clause-flushed
returns-in-Ok-settle_all-clause-flushed g c =
    flushed_well g.B.ByteDisk c.args.self.now c.begin.new.self c.settle_all.new.self c.end.new.self c.in-Ok.ensures.looks c.in-Ok.ensures.rose c.moment-past.result.items c.moment-past.ensures tt c.self.inside.head
    (head_in g.B.ByteDisk _ _ c.self.view_is) c.in-Ok-settle_all.ensures.stored c.end.ensures

pub returns-in-Err-settle_all-clause-flushed : goal.returns-in-Err-settle_all-clause-flushed
returns-in-Err-settle_all-clause-flushed g c =
    flushed_badly g.B.ByteDisk c.args.self.now c.begin.new.self c.settle_all.new.self c.fail.new.self c.in-Ok.ensures.looks c.in-Ok.ensures.rose c.moment-past.result.items c.moment-past.ensures c.in-Err-settle_all.why
    c.in-Err-settle_all.ensures.stored c.fail.ensures

pub returns-in-Err-clause-flushed : goal.returns-in-Err-clause-flushed
returns-in-Err-clause-flushed g c =
    flushed_not g.B.ByteDisk c.args.self.now c.begin.new.self c.fail-in-Err.new.self c.in-Err.ensures.looks c.in-Err.ensures.rose c.moment-past.result.items c.moment-past.ensures c.in-Err.why c.fail-in-Err.ensures

pub end-requires-clause-early : goal.end-requires-clause-early
end-requires-clause-early g c =
    early_then g.B.ByteDisk _ c.begin.new.self c.settle_all.new.self c.moment-past.result.items c.moment-past.ensures c.in-Ok.ensures.looks c.in-Ok.ensures.rose
    (c.in-Ok-settle_all.ensures.stored.count.later)

pub fail-requires : goal.fail-requires
fail-requires g c =
    early_then g.B.ByteDisk _ c.begin.new.self c.settle_all.new.self c.moment-past.result.items c.moment-past.ensures c.in-Ok.ensures.looks c.in-Ok.ensures.rose
    (c.in-Err-settle_all.ensures.stored.count.later)

pub fail-requires-in-Err : goal.fail-requires-in-Err
fail-requires-in-Err g c =
    early_then g.B.ByteDisk _ c.begin.new.self c.begin.new.self c.moment-past.result.items c.moment-past.ensures c.in-Err.ensures.looks c.in-Err.ensures.rose
    (omega arith)

pub end-requires-clause-within : goal.end-requires-clause-within
end-requires-clause-within g c =
    head_stays g.B.ByteDisk _ c.args.self.now c.settle_all.new.self c.self.view_is c.self.invariant
    (c.in-Ok-settle_all.ensures.stored.held ∙ c.in-Ok.ensures.looks.held)
