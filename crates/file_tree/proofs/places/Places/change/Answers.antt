use Rattle.std.proofs.Common.{ap, subst, vec_capacity}
use Rattle.file_tree.specs.Places.{Stored}
use Rattle.file_tree.specs.Changes.{IsChangedAt, IsChangedBy}
use Rattle.file_tree.proofs.IndexedLemmas.{changed_indexed}
use Rattle.file_tree.proofs.places.Places.change.Goals as goal

pub invariant_of-self : goal.invariant_of-self
invariant_of-self c =
    let i = c.self.inside in
    changed_indexed _ i.store.spots c.change.new.self.spots i.names i.free.items (vec_capacity i.free) c.args.number c.self.invariant c.change.ensures.spots

pub returns-clause-changed : goal.returns-clause-changed
returns-clause-changed c =
    subst (λ m. IsChangedAt m c.change.new.self.nodes c.args.number (λ a b. IsChangedBy c.args.change c.args.at a b)) (ap (λ (t : Stored). t.nodes) c.self.view_is) c.change.ensures.changed
