use Rattle.std.proofs.Common.{◌∙◌}
use Rattle.file_drive.proofs.tape.Opened.read.Goals as goal

pub invariant_of-self : goal.invariant_of-self
invariant_of-self g c =
    (c.read.ensures.ran c.args.at c.in-Ok.ensures.head).looked.ends.command.limits ∙ c.locate.ensures.looked.ends.command.limits
    ∙ c.self.invariant

pub returns-in-Ok-clause-bytes : goal.returns-in-Ok-clause-bytes
returns-in-Ok-clause-bytes g c = (c.read.ensures.ran c.args.at c.in-Ok.ensures.head).bytes
