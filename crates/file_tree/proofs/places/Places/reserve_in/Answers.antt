use Rattle.std.proofs.Common.{ap, subst, vec_capacity, OnOk}
use Rattle.file_tree.specs.Places.{Stored}
use Rattle.file_tree.specs.Changes.{IsChangedAt, IsRoomier, HasRoom}
use Rattle.file_tree.proofs.IndexedLemmas.{changed_indexed}
use Rattle.file_tree.proofs.places.Places.reserve_in.Goals as goal

pub invariant_of-self : goal.invariant_of-self
invariant_of-self c =
    let i = c.self.inside in
    changed_indexed _ i.store.spots c.reserve_in.new.self.spots i.names i.free.items (vec_capacity i.free) c.args.number c.self.invariant c.reserve_in.ensures.spots

pub returns-clause-changed : goal.returns-clause-changed
returns-clause-changed c =
    subst (λ m. IsChangedAt m c.reserve_in.new.self.nodes c.args.number (λ a b. IsRoomier c.args.room a b × OnOk c.reserve_in.result (HasRoom c.args.room b))) (ap (λ (t : Stored). t.nodes) c.self.view_is) c.reserve_in.ensures.changed
