use Rattle.std.proofs.Common.{arith}
use Rattle.image_tape.specs.Tape.{held_of}
use Rattle.image_tape.proofs.Ending.{early_then, head_in, noted_badly, noted_not, noted_well}
use Rattle.image_tape.proofs.Heads.{head_stays, within_noted}
use Rattle.image_tape.proofs.tape.ImageTape.put_note.Goals as goal

pub returns-in-Ok-set_note-clause-noted : goal.returns-in-Ok-set_note-clause-noted
returns-in-Ok-set_note-clause-noted g c =
    noted_well g.B.ByteDisk c.args.part c.args.note c.args.self.now c.begin.new.self c.set_note.new.self c.end.new.self c.in-Ok.ensures.looks c.in-Ok.ensures.rose c.moment-past.result.items c.moment-past.ensures tt c.self.inside.head
    (head_in g.B.ByteDisk _ _ c.self.view_is) c.in-Ok-set_note.ensures.noted c.end.ensures

pub returns-in-Err-set_note-clause-noted : goal.returns-in-Err-set_note-clause-noted
returns-in-Err-set_note-clause-noted g c =
    noted_badly g.B.ByteDisk c.args.part c.args.note c.args.self.now c.begin.new.self c.set_note.new.self c.fail.new.self c.in-Ok.ensures.looks c.in-Ok.ensures.rose c.moment-past.result.items c.moment-past.ensures
    c.in-Err-set_note.why c.in-Err-set_note.ensures.noted c.fail.ensures

pub returns-in-Err-clause-noted : goal.returns-in-Err-clause-noted
returns-in-Err-clause-noted g c =
    noted_not g.B.ByteDisk c.args.part c.args.note c.args.self.now c.begin.new.self c.fail-in-Err.new.self c.in-Err.ensures.looks c.in-Err.ensures.rose c.moment-past.result.items c.moment-past.ensures c.in-Err.why c.fail-in-Err.ensures

pub end-requires-clause-early : goal.end-requires-clause-early
end-requires-clause-early g c =
    early_then g.B.ByteDisk _ c.begin.new.self c.set_note.new.self c.moment-past.result.items c.moment-past.ensures c.in-Ok.ensures.looks c.in-Ok.ensures.rose
    (c.in-Ok-set_note.ensures.noted.count.later)

pub fail-requires : goal.fail-requires
fail-requires g c =
    early_then g.B.ByteDisk _ c.begin.new.self c.set_note.new.self c.moment-past.result.items c.moment-past.ensures c.in-Ok.ensures.looks c.in-Ok.ensures.rose
    (c.in-Err-set_note.ensures.noted.count.later)

pub fail-requires-in-Err : goal.fail-requires-in-Err
fail-requires-in-Err g c =
    early_then g.B.ByteDisk _ c.begin.new.self c.begin.new.self c.moment-past.result.items c.moment-past.ensures c.in-Err.ensures.looks c.in-Err.ensures.rose
    (omega arith)

pub end-requires-clause-within : goal.end-requires-clause-within
end-requires-clause-within g c =
    within_noted c.args.part c.args.note (held_of g.B.ByteDisk c.begin.new.self) (held_of g.B.ByteDisk c.set_note.new.self) c.self.inside.head
    c.in-Ok-set_note.ensures.noted.untold c.in-Ok-set_note.ensures.noted.told
    (head_stays g.B.ByteDisk _ c.args.self.now c.begin.new.self c.self.view_is c.self.invariant c.in-Ok.ensures.looks.held)
