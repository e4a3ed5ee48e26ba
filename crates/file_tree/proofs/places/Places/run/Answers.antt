use Rattle.file_tree.specs.Beside.{keys_of}
use Rattle.file_tree.specs.Seen.{held}
use Rattle.file_tree.proofs.ReadLemmas.{if_ok}
use Rattle.file_tree.proofs.IndexedLemmas.{shown_now, dir_fits}
use Rattle.file_tree.proofs.RunLemmas.{run_at}
use Rattle.file_tree.proofs.places.Places.run.Goals as goal

pub numbers-requires-clause-are : goal.numbers-requires-clause-are
numbers-requires-clause-are c = (keys_of (held c.self.inside.store.spots), c.self.invariant.names_in)

pub numbers-requires-clause-below : goal.numbers-requires-clause-below
numbers-requires-clause-below c =
    let i = c.self.inside in
    dir_fits i.store.spots i.names i.free.items _ c.self.invariant _ _ _ c.spots-shown.ensures.stored c.self.view_is c.args.dir c.requires

pub returns : goal.returns
returns c =
    let i = c.self.inside in
    let m = c.args.self.now.nodes in
    let shows = shown_now i.store.spots _ _ _ c.spots-shown.ensures.stored c.self.view_is in
    let at = held i.store.spots in
    if_ok c.numbers.result
    (λ numbers is path there. run_at at m shows c.args.dir path there numbers.items (is (keys_of at) c.self.invariant.names_in))
    c.numbers.ensures
