use Rattle.std.proofs.Common.{arith}
use Rattle.image_tape.specs.Tape.{held_of}
use Rattle.image_tape.proofs.Ending.{early_then, read_badly, read_late, read_well}
use Rattle.image_tape.proofs.Heads.{within_read, within_still}
use Rattle.image_tape.proofs.tape.ImageTape.read_item.Goals as goal

pub returns-in-Ok-read_at-clause-ran : goal.returns-in-Ok-read_at-clause-ran
returns-in-Ok-read_at-clause-ran g c =
    read_well g.B.ByteDisk c.args.at c.in-Ok-read_at.got c.in-Ok-read_at.place c.read_at.new.buf.items c.args.self.now c.begin.new.self c.read_at.new.self c.end.new.self
    c.in-Ok.ensures.looks c.in-Ok.ensures.rose c.in-Ok.ensures.settled c.in-Ok-read_at.ensures.reading c.read_at.ensures.looks c.in-Ok-read_at.ensures.place c.moment-past.result.items c.moment-past.ensures c.end.ensures

pub returns-in-Err-read_at-clause-ran : goal.returns-in-Err-read_at-clause-ran
returns-in-Err-read_at-clause-ran g c =
    read_late g.B.ByteDisk c.args.at c.in-Err-read_at.why c.read_at.new.buf.items c.args.self.now c.begin.new.self c.read_at.new.self c.fail.new.self c.in-Ok.ensures.looks
    c.in-Ok.ensures.rose c.read_at.ensures.looks c.moment-past.result.items c.moment-past.ensures c.fail.ensures

pub returns-in-Err-clause-ran : goal.returns-in-Err-clause-ran
returns-in-Err-clause-ran g c =
    read_badly g.B.ByteDisk c.args.at c.in-Err.why _ 3 c.args.self.now c.begin.new.self c.fail-in-Err.new.self (omega arith) c.in-Err.ensures.looks c.in-Err.ensures.rose c.moment-past.result.items c.moment-past.ensures
    c.fail-in-Err.ensures

pub end-requires-clause-early : goal.end-requires-clause-early
end-requires-clause-early g c =
    early_then g.B.ByteDisk _ c.begin.new.self c.read_at.new.self c.moment-past.result.items c.moment-past.ensures c.in-Ok.ensures.looks c.in-Ok.ensures.rose
    (c.read_at.ensures.looks.count.later)

pub fail-requires : goal.fail-requires
fail-requires g c =
    early_then g.B.ByteDisk _ c.begin.new.self c.read_at.new.self c.moment-past.result.items c.moment-past.ensures c.in-Ok.ensures.looks c.in-Ok.ensures.rose
    (c.read_at.ensures.looks.count.later)

pub fail-requires-in-Err : goal.fail-requires-in-Err
fail-requires-in-Err g c =
    early_then g.B.ByteDisk _ c.begin.new.self c.begin.new.self c.moment-past.result.items c.moment-past.ensures c.in-Err.ensures.looks c.in-Err.ensures.rose
    (omega arith)

pub end-requires-clause-within : goal.end-requires-clause-within
end-requires-clause-within g c =
    within_read c.args.at c.in-Ok-read_at.place (held_of g.B.ByteDisk c.begin.new.self) (held_of g.B.ByteDisk c.read_at.new.self) c.read_at.ensures.looks.held
    c.in-Ok-read_at.got c.read_at.new.buf.items (λ x held. c.in-Ok-read_at.ensures.reading.item c.in-Ok.ensures.settled x held) c.in-Ok-read_at.ensures.place
    (within_still (held_of g.B.ByteDisk c.args.self.now) (held_of g.B.ByteDisk c.begin.new.self) _ c.in-Ok.ensures.looks.held c.requires.within)
