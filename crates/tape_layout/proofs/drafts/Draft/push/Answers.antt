use Rattle.tape_layout.proofs.Lists.{pushed}
use Rattle.tape_layout.proofs.drafts.Draft.push.Goals as goal

pub invariant_of-self : goal.invariant_of-self
invariant_of-self c = pushed c.self.inside.start c.self.inside.ends c.self.inside.items.items _ (record { op = c.args.op; ends = c.after-ends.result }) c.self.invariant c.in-Ok.ensures.items c.after-ends.ensures
