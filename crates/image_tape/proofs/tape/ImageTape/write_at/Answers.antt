use Rattle.std.proofs.Common.{rules}
use Rattle.image_tape.proofs.Blaming.{gap_blame}
use Rattle.image_tape.proofs.Writings.{not_written, writes_by}
use Rattle.image_tape.proofs.tape.ImageTape.write_at.Goals as goal

pub returns-in-Ok-clause-writes : goal.returns-in-Ok-clause-writes
returns-in-Ok-clause-writes g c = λ x sound same.
    writes_by g.B.ByteDisk c.args.at x c.replace.result c.args.self.now c.rise.new.self c.replace.new.self c.rise.result c.in-Ok.field-0 c.in-Ok.ensures.rises (c.replace.ensures.replaces x sound same)

pub returns-in-Err-clause-writes : goal.returns-in-Err-clause-writes
returns-in-Err-clause-writes g c = λ x sound same. not_written g.B.ByteDisk c.args.at x c.in-Err.why c.args.self.now c.rise.new.self c.in-Err.ensures.rises

pub returns-then-count-at-clause-blamed : goal.returns-then-count-at-clause-blamed
returns-then-count-at-clause-blamed g c =
    gap_blame g.B.ByteDisk _ c.args.at _ _ c.count.result c.self.view_is c.self.invariant c.requires.settled c.count.ensures (search rules) c.requires.within
