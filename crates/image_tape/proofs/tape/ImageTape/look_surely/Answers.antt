use Rattle.std.proofs.Common.{◌∙◌, arith}
use Rattle.image_tape.proofs.Ending.{early_then, looked_badly, steady_end, surely_badly, surely_well}
use Rattle.image_tape.proofs.Heads.{head_stays}
use Rattle.image_tape.proofs.tape.ImageTape.look_surely.Goals as goal

pub returns-in-Ok-settle_vcr-clause-looked : goal.returns-in-Ok-settle_vcr-clause-looked
returns-in-Ok-settle_vcr-clause-looked g c =
    surely_well g.B.ByteDisk tt c.self.inside.head c.args.self.now c.begin.new.self c.settle_vcr.new.self c.end.new.self c.in-Ok.ensures.looks c.in-Ok.ensures.rose
    c.settle_vcr.ensures.looks c.moment-past.result.items c.moment-past.ensures c.end.ensures

pub returns-in-Ok-settle_vcr-clause-settled : goal.returns-in-Ok-settle_vcr-clause-settled
returns-in-Ok-settle_vcr-clause-settled g c =
    steady_end g.B.ByteDisk c.self.inside.head c.moment-past.result.items c.settle_vcr.new.self c.end.new.self c.end.ensures c.in-Ok-settle_vcr.ensures.settled

pub returns-in-Err-settle_vcr-clause-looked : goal.returns-in-Err-settle_vcr-clause-looked
returns-in-Err-settle_vcr-clause-looked g c =
    surely_badly g.B.ByteDisk c.in-Err-settle_vcr.why c.args.self.now c.begin.new.self c.settle_vcr.new.self c.fail.new.self c.in-Ok.ensures.looks c.in-Ok.ensures.rose
    c.settle_vcr.ensures.looks c.moment-past.result.items c.moment-past.ensures c.fail.ensures

pub returns-in-Err-clause-looked : goal.returns-in-Err-clause-looked
returns-in-Err-clause-looked g c =
    looked_badly g.B.ByteDisk c.in-Err.why 3 c.args.self.now c.begin.new.self c.fail-in-Err.new.self (omega arith) c.in-Err.ensures.looks c.in-Err.ensures.rose
    c.moment-past.result.items c.moment-past.ensures c.fail-in-Err.ensures

pub end-requires-clause-early : goal.end-requires-clause-early
end-requires-clause-early g c =
    early_then g.B.ByteDisk _ c.begin.new.self c.settle_vcr.new.self c.moment-past.result.items c.moment-past.ensures c.in-Ok.ensures.looks c.in-Ok.ensures.rose
    (c.settle_vcr.ensures.looks.count.later)

pub fail-requires : goal.fail-requires
fail-requires g c =
    early_then g.B.ByteDisk _ c.begin.new.self c.settle_vcr.new.self c.moment-past.result.items c.moment-past.ensures c.in-Ok.ensures.looks c.in-Ok.ensures.rose
    (c.settle_vcr.ensures.looks.count.later)

pub fail-requires-in-Err : goal.fail-requires-in-Err
fail-requires-in-Err g c =
    early_then g.B.ByteDisk _ c.begin.new.self c.begin.new.self c.moment-past.result.items c.moment-past.ensures c.in-Err.ensures.looks c.in-Err.ensures.rose
    (omega arith)

pub end-requires-clause-within : goal.end-requires-clause-within
end-requires-clause-within g c =
    head_stays g.B.ByteDisk _ c.args.self.now c.settle_vcr.new.self c.self.view_is c.self.invariant
    (c.settle_vcr.ensures.looks.held ∙ c.in-Ok.ensures.looks.held)
