use Rattle.std.proofs.Common.{Some, sym, subst}
use Rattle.file_tree.specs.Seen.{held, IsShown}
use Rattle.file_tree.proofs.IndexedLemmas.{shown_now}
use Rattle.file_tree.proofs.RunLemmas.{child_result}
use Rattle.file_tree.proofs.places.Places.likely_child.Goals as goal

pub returns-then-is_child : goal.returns-then-is_child
returns-then-is_child c path there =
    let m = c.args.self.now.nodes in
    let spots = c.spots-spots in
    let shows = shown_now c.self.inside.store.spots _ _ _ spots.ensures.stored c.self.view_is in
    let shown = subst (λ l. IsShown (held l) m) (sym spots.ensures.spots) shows in
    child_result (held spots.result.now) m shown c.args.dir c.as_str-asked.result.now c.args.name.now (Some _) c.as_str-asked.ensures (c.is_child.ensures c.if-is_child.true) tt path there
