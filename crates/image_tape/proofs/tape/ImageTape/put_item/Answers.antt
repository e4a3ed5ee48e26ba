use Rattle.std.proofs.Common.{arith}
use Rattle.tape_types.specs.Cartridges.{next}
use Rattle.image_tape.specs.Tape.{held_of}
use Rattle.image_tape.proofs.Ending.{early_then, ended_at, wrote_badly, wrote_not, wrote_well}
use Rattle.image_tape.proofs.Heads.{within_still, within_written}
use Rattle.image_tape.proofs.Spots.{room_small}
use Rattle.image_tape.proofs.tape.ImageTape.put_item.Goals as goal

pub next-behind-requires : goal.next-behind-requires
next-behind-requires g c = room_small g.B.ByteDisk c.args.at _ _ c.self.view_is c.self.invariant c.requires.room

pub returns-in-Ok-write_at-clause-wrote : goal.returns-in-Ok-write_at-clause-wrote
returns-in-Ok-write_at-clause-wrote g c = λ x sound same.
    wrote_well g.B.ByteDisk c.args.at x c.args.self.now c.begin.new.self c.write_at.new.self c.end.new.self c.in-Ok.ensures.looks c.in-Ok.ensures.rose c.moment-past.result.items c.moment-past.ensures tt
    (c.in-Ok-write_at.ensures.writes x sound same) (ended_at g.B.ByteDisk c.next-behind.result (next c.args.at) _ _ _ c.next-behind.ensures c.end.ensures)

pub returns-in-Err-write_at-clause-wrote : goal.returns-in-Err-write_at-clause-wrote
returns-in-Err-write_at-clause-wrote g c = λ x sound same.
    wrote_badly g.B.ByteDisk c.args.at x c.args.self.now c.begin.new.self c.write_at.new.self c.fail.new.self c.in-Ok.ensures.looks c.in-Ok.ensures.rose c.moment-past.result.items c.moment-past.ensures c.in-Err-write_at.why
    (c.in-Err-write_at.ensures.writes x sound same) c.fail.ensures

pub returns-in-Err-clause-wrote : goal.returns-in-Err-clause-wrote
returns-in-Err-clause-wrote g c = λ x sound same.
    wrote_not g.B.ByteDisk c.args.at x c.args.self.now c.begin.new.self c.fail-in-Err.new.self c.in-Err.ensures.looks c.in-Err.ensures.rose c.moment-past.result.items c.moment-past.ensures c.in-Err.why c.fail-in-Err.ensures

pub end-requires-clause-early : goal.end-requires-clause-early
end-requires-clause-early g c =
    early_then g.B.ByteDisk _ c.begin.new.self c.write_at.new.self c.moment-past.result.items c.moment-past.ensures c.in-Ok.ensures.looks c.in-Ok.ensures.rose
    ((c.in-Ok-write_at.ensures.writes c.requires.sound.0 c.requires.sound.1 c.requires.sound.2).count.later)

pub fail-requires : goal.fail-requires
fail-requires g c =
    early_then g.B.ByteDisk _ c.begin.new.self c.write_at.new.self c.moment-past.result.items c.moment-past.ensures c.in-Ok.ensures.looks c.in-Ok.ensures.rose
    ((c.in-Err-write_at.ensures.writes c.requires.sound.0 c.requires.sound.1 c.requires.sound.2).count.later)

pub fail-requires-in-Err : goal.fail-requires-in-Err
fail-requires-in-Err g c =
    early_then g.B.ByteDisk _ c.begin.new.self c.begin.new.self c.moment-past.result.items c.moment-past.ensures c.in-Err.ensures.looks c.in-Err.ensures.rose
    (omega arith)

pub end-requires-clause-within : goal.end-requires-clause-within
end-requires-clause-within g c =
    let x = c.requires.sound in
    let done = c.in-Ok-write_at.ensures.writes x.0 x.1 x.2 in
    within_written c.args.at c.next-behind.result x.0 (held_of g.B.ByteDisk c.begin.new.self) (held_of g.B.ByteDisk c.write_at.new.self) c.next-behind.ensures
    done.untold done.told
    (within_still (held_of g.B.ByteDisk c.args.self.now) (held_of g.B.ByteDisk c.begin.new.self) _ c.in-Ok.ensures.looks.held c.requires.within)

pub write_at-requires-clause-within : goal.write_at-requires-clause-within
write_at-requires-clause-within g c =
    within_still (held_of g.B.ByteDisk c.args.self.now) (held_of g.B.ByteDisk c.begin.new.self) _ c.in-Ok.ensures.looks.held c.requires.within
