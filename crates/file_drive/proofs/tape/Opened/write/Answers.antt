use Rattle.std.proofs.Common.{◌∙◌}
use Rattle.file_drive.proofs.tape.Opened.write.Goals as goal

pub invariant_of-self : goal.invariant_of-self
invariant_of-self g c =
    (c.write.ensures.ran c.args.at c.in-Ok.ensures.head).ends.command.limits ∙ c.locate.ensures.looked.ends.command.limits ∙ c.self.invariant
