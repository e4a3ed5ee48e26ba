use Rattle.std.proofs.Common.{◌≡◌, length, Some, sym, ap, subst, arith}
use Rattle.file_tree.specs.Seen.{held}
use Rattle.file_tree.specs.Beside.{KeysDiffer}
use Rattle.file_tree.proofs.IndexedLemmas.{dir_below, keys_differ}
use Rattle.file_tree.proofs.places.Places.from_store.Goals as goal

pub named-requires-clause-below : goal.named-requires-clause-below
named-requires-clause-below c n z is =
    let s = c.spots-slots.ensures.stored in
    let spots = c.args.store.spots in
    let here : held spots n ≡ Some z = subst (λ l. held l n ≡ Some z) c.spots.ensures.spots is in
    omega (arith, dir_below spots c.args.store.nodes s.shown n z here, ap length c.spots.ensures.spots)

pub named-requires-clause-apart : goal.named-requires-clause-apart
named-requires-clause-apart c =
    subst (λ l. KeysDiffer (held l)) (sym c.spots.ensures.spots) (keys_differ c.args.store.spots c.args.store.nodes c.spots-slots.ensures.stored.shown)
