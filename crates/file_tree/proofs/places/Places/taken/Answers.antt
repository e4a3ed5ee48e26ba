use Rattle.std.proofs.Common.{sym, subst}
use Rattle.file_tree.specs.Seen.{held, IsShown}
use Rattle.file_tree.specs.Beside.{AreNamed}
use Rattle.file_tree.proofs.IndexedLemmas.{shown_now, dir_fits}
use Rattle.file_tree.proofs.RunLemmas.{child_result}
use Rattle.file_tree.proofs.places.Places.taken.Goals as goal

pub child-requires-clause-named : goal.child-requires-clause-named
child-requires-clause-named c = subst (λ l. AreNamed c.self.inside.names (held l)) (sym c.spots-spots.ensures.spots) c.self.invariant.names_in

pub child-requires-clause-below : goal.child-requires-clause-below
child-requires-clause-below c =
    let i = c.self.inside in
    dir_fits i.store.spots i.names i.free.items _ c.self.invariant _ _ _ c.spots-spots.ensures.stored c.self.view_is c.args.dir c.requires

pub returns : goal.returns
returns c path there =
    let i = c.self.inside in
    let m = c.args.self.now.nodes in
    let shows = shown_now i.store.spots _ _ _ c.spots-spots.ensures.stored c.self.view_is in
    let shown = subst (λ l. IsShown (held l) m) (sym c.spots-spots.ensures.spots) shows in
    child_result (held c.spots-spots.result.now) m shown c.args.dir c.as_str-name.result.now c.args.name.now c.child.result c.as_str-name.ensures c.child.ensures.found c.child.ensures.missing path there
