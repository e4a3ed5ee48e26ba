use Rattle.file_tree.proofs.IndexedLemmas.{dir_fits}
use Rattle.file_tree.proofs.places.Places.step.Goals as goal

pub near-requires-clause-below : goal.near-requires-clause-below
near-requires-clause-below c =
    let i = c.self.inside in
    dir_fits i.store.spots i.names i.free.items _ c.self.invariant _ _ _ c.spots-shown.ensures.stored c.self.view_is c.args.dir c.requires
