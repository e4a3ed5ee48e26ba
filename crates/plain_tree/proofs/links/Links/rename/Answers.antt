use Rattle.std.proofs.Common.{ℕ, List, Some, subst}
use Rattle.plain_tree.specs.Links.{child, IsPut}
use Rattle.plain_tree.proofs.LinkLemmas.{moved_to}
use Rattle.plain_tree.proofs.links.Links.rename.Goals as goal

pub returns-clause-ok : goal.returns-clause-ok
returns-clause-ok c =
    moved_to (child c.args.self.now) (child c.insert.new.self) (child c.remove.new.self) (child c.replace.new.self) c.args.old c.args.old_name.now c.args.uid c.args.name.now c.in-Some.node c.placeholder.result
    c.requires.there c.requires.free (subst (λ (n : List ℕ). IsPut (child c.args.self.now) (child c.insert.new.self) c.args.uid n (Some c.placeholder.result)) c.in_ok-copy.ensures c.in_ok-insert.ensures.ok) c.in-Some.ensures.taken c.in-Some.ensures.rest c.replace.ensures
