use Rattle.image_tape.proofs.Appending.{appends_by, not_appended}
use Rattle.image_tape.proofs.tape.ImageTape.append.Goals as goal

pub returns-in-Ok-clause-appends : goal.returns-in-Ok-clause-appends
returns-in-Ok-clause-appends g c = λ x sound same.
    appends_by g.B.ByteDisk c.args.part x c.put.result c.args.self.now c.fill.new.self c.put.new.self c.in-Ok.ensures.fills.hides c.in-Ok.ensures.fills.whole (c.put.ensures.puts x sound same)

pub returns-in-Err-clause-appends : goal.returns-in-Err-clause-appends
returns-in-Err-clause-appends g c = λ x sound same. not_appended g.B.ByteDisk c.args.part c.fill.result c.args.self.now c.fill.new.self x c.in-Err.why c.fill.ensures.fills
