use Rattle.plain_tree.proofs.Validity.{either_valid}
use Rattle.plain_tree.proofs.plain.Plain.apply.Goals as goal

pub invariant_of-self : goal.invariant_of-self
invariant_of-self c = either_valid c.apply.result c.self.inside.tree c.apply.new.self c.args.call.now c.args.at c.self.invariant c.apply.ensures.after c.apply.ensures.err
