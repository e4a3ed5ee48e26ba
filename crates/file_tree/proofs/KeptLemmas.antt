-- What the fields of a store keep.
use Rattle.std.proofs.Common.{◌≡◌, ap}
use Rattle.file_tree.specs.contracts.store.Store.{the_view}
use Rattle.file_tree.specs.declared.store.Store.TheInside.{Inside}
use Rattle.file_tree.specs.Places.{StoreView, IsStored}
use Rattle.file_tree.proofs.PlaceLemmas.{stored_now}

-- places that keep a tree keep it under another name of its view
pub kept_now : (i : Inside) (now : StoreView) → IsStored i.spots.items i.count i.seen.0 → the_view i ≡ now → IsStored i.spots.items i.count now.nodes
kept_now i now good is = stored_now i.spots.items i.count i.seen.0 now.nodes good (ap (λ (t : StoreView). t.nodes) is)

-- the places of a tree are those of its view
pub spots_now : (i : Inside) (now : StoreView) → the_view i ≡ now → i.spots.items ≡ now.spots
spots_now i now is = ap (λ (t : StoreView). t.spots) is
