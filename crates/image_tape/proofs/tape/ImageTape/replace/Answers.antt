use Rattle.image_tape.proofs.Writings.{replaces_by}
use Rattle.image_tape.proofs.tape.ImageTape.replace.Goals as goal

pub returns-clause-replaces : goal.returns-clause-replaces
returns-clause-replaces g c = λ x sound same.
    replaces_by g.B.ByteDisk c.args.at x c.append.result c.args.self.now c.cut.new.self c.append.new.self c.cut.ensures.cut (c.append.ensures.appends x sound same)
