use Rattle.std.proofs.Common.{IsSome, sym, ap, ◌∙◌, subst}
use Rattle.std.specs.List.{AllByRecursion}
use Rattle.file_tree.specs.Beside.{keys_of}
use Rattle.file_tree.specs.Seen.{held}
use Rattle.file_tree.specs.Listing.{lines_at}
use Rattle.file_tree.proofs.ReadLemmas.{if_ok}
use Rattle.file_tree.proofs.IndexedLemmas.{shown_now, dir_fits}
use Rattle.file_tree.proofs.RunLemmas.{lines_are, all_some}
use Rattle.file_tree.proofs.places.Places.list.Goals as goal

pub numbers-requires-clause-are : goal.numbers-requires-clause-are
numbers-requires-clause-are c = (keys_of (held c.self.inside.store.spots), c.self.invariant.names_in)

pub numbers-requires-clause-below : goal.numbers-requires-clause-below
numbers-requires-clause-below c =
    let i = c.self.inside in
    dir_fits i.store.spots i.names i.free.items _ c.self.invariant _ _ _ c.spots-spots.ensures.stored c.self.view_is c.args.dir c.requires

pub lines_of-requires : goal.lines_of-requires
lines_of-requires c =
    let at = held c.self.inside.store.spots in
    subst (λ l. AllByRecursion (λ n. IsSome (held l n)) c.deref.result.now) (sym c.spots-spots.ensures.spots)
    (subst (AllByRecursion (λ n. IsSome (at n))) (sym c.deref.ensures.value)
    (all_some at c.args.dir c.in_ok-numbers.numbers.items (c.in_ok-numbers.ensures (keys_of at) c.self.invariant.names_in)))

pub returns : goal.returns
returns c =
    let i = c.self.inside in
    let m = c.args.self.now.nodes in
    let shows = shown_now i.store.spots _ _ _ c.spots-spots.ensures.stored c.self.view_is in
    let at = held i.store.spots in
    let r = c.in_ok-numbers.ensures (keys_of at) c.self.invariant.names_in in
    if_ok c.lines_of.result
    (λ entries is tape path there. is ∙ ap (λ l. lines_at (held l) c.deref.result.now) c.spots-spots.ensures.spots ∙ ap (lines_at at) c.deref.ensures.value
    ∙ lines_are at m shows c.args.dir c.in_ok-numbers.numbers.items r tape path there)
    c.lines_of.ensures
