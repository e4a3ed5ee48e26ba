use Rattle.std.proofs.Common.{arith}
use Rattle.image_tape.specs.Tape.{held_of}
use Rattle.image_tape.proofs.Ending.{early_then, looked_badly, looked_well}
use Rattle.image_tape.proofs.Heads.{within_still}
use Rattle.image_tape.proofs.tape.ImageTape.look.Goals as goal

pub returns-in-Ok-clause-looked : goal.returns-in-Ok-clause-looked
returns-in-Ok-clause-looked g c = looked_well g.B.ByteDisk tt 3 c.args.head c.args.self.now c.begin.new.self c.end.new.self (omega arith) c.begin.ensures.looks c.begin.ensures.rose c.moment-past.result.items c.moment-past.ensures c.end.ensures

pub returns-in-Err-clause-looked : goal.returns-in-Err-clause-looked
returns-in-Err-clause-looked g c =
    looked_badly g.B.ByteDisk c.in-Err.why 3 c.args.self.now c.begin.new.self c.fail.new.self (omega arith) c.begin.ensures.looks c.begin.ensures.rose c.moment-past.result.items c.moment-past.ensures c.fail.ensures

pub end-requires-clause-early : goal.end-requires-clause-early
end-requires-clause-early g c =
    early_then g.B.ByteDisk _ c.begin.new.self c.begin.new.self c.moment-past.result.items c.moment-past.ensures c.begin.ensures.looks c.begin.ensures.rose
    (omega arith)

pub fail-requires : goal.fail-requires
fail-requires g c =
    early_then g.B.ByteDisk _ c.begin.new.self c.begin.new.self c.moment-past.result.items c.moment-past.ensures c.begin.ensures.looks c.begin.ensures.rose
    (omega arith)

pub end-requires-clause-within : goal.end-requires-clause-within
end-requires-clause-within g c =
    within_still (held_of g.B.ByteDisk c.args.self.now) (held_of g.B.ByteDisk c.begin.new.self) c.args.head c.begin.ensures.looks.held c.requires
