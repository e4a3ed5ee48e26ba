use Rattle.tape_layout.proofs.Leads.{admitted}
use Rattle.tape_layout.proofs.layouts.Layout.admit.Goals as goal

pub invariant_of-self : goal.invariant_of-self
invariant_of-self c =
    admitted c.args.self.now c.args.draft c.self.inside.limits c.self.inside.block c.self.inside.ends c.self.inside.flush_due c.self.inside.ip_on c.draft.inside.start c.draft.inside.ends
    c.self.inside.todo.items c.draft.inside.items.items c.append.new.self.items c.self.view_is c.draft.view_is c.self.invariant c.draft.invariant c.requires.start c.requires.ready.lead c.requires.ready.can_be
    c.in-Ok.ensures.items
