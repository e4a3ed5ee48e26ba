use Rattle.file_tree.specs.Beside.{keys_of}
use Rattle.file_tree.specs.Seen.{held}
use Rattle.file_tree.proofs.IndexedLemmas.{shown_now, dir_fits}
use Rattle.file_tree.proofs.RunLemmas.{anything_in}
use Rattle.file_tree.proofs.places.Places.has_entries.Goals as goal

pub has_any-requires : goal.has_any-requires
has_any-requires c =
    let i = c.self.inside in
    dir_fits i.store.spots i.names i.free.items _ c.self.invariant _ _ _ c.spots-shown.ensures.stored c.self.view_is c.args.dir c.requires

pub returns : goal.returns
returns c path there =
    let i = c.self.inside in
    let m = c.args.self.now.nodes in
    let shows = shown_now i.store.spots _ _ _ c.spots-shown.ensures.stored c.self.view_is in
    let keys = keys_of (held i.store.spots) in
    let named = c.self.invariant.names_in in
    anything_in (held i.store.spots) m shows c.args.dir path there c.has_any.result
    (λ some. c.has_any.ensures.some some keys named) (λ none n name. c.has_any.ensures.none none keys n name named)
