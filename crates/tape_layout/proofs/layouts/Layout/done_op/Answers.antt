use Rattle.std.proofs.Common.{sym, subst}
use Rattle.tape_layout.specs.Plans.{AreKept}
use Rattle.tape_layout.proofs.Leads.{less_kept}
use Rattle.tape_layout.proofs.layouts.Layout.done_op.Goals as goal

pub invariant_of-self : goal.invariant_of-self
invariant_of-self c =
    subst (AreKept c.self.inside.limits c.self.inside.block c.self.inside.ends) (sym c.pop_front.ensures.rest) (less_kept c.self.inside.limits c.self.inside.block c.self.inside.ends c.self.inside.todo.items c.self.invariant)
