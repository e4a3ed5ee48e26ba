use Rattle.std.proofs.Common.{◌≡◌, ◌-◌, ◌<◌, length, is_some, sym, ap, subst, arith, vec_capacity}
use Rattle.file_tree.specs.declared.nodes.Spot.{Spot}
use Rattle.file_tree.specs.Places.{Stored, least}
use Rattle.file_tree.specs.Seen.{held}
use Rattle.file_tree.specs.Beside.{CanName}
use Rattle.file_tree.proofs.PlaceLemmas.{stored_now, held_within}
use Rattle.file_tree.proofs.IndexedLemmas.{new_name}
use Rattle.file_tree.proofs.places.Places.put.Goals as goal

pub name_in-requires : goal.name_in-requires
name_in-requires c =
    let i = c.self.inside in
    let m = c.args.self.now.nodes in
    let same : i.store.nodes ≡ m = ap (λ (t : Stored). t.nodes) c.self.view_is in
    let s = stored_now i.store.spots _ i.store.nodes m c.spots-shown.ensures.stored same in
    let n = c.store_node-number.result in
    let next = c.store_node-number.new.store.spots in
    let set = c.store_node-number.ensures.spots in
    let z : Spot = record { parent = c.args.dir; name = c.args.name; node = record c.args.node { number = n } } in
    let room : least i.store.spare (length i.names.owned.items - length i.store.spots) (vec_capacity i.free - length i.store.spots) ≡ c.args.self.now.spare = ap (λ (t : Stored). t.spare) c.self.view_is in
    let here : n < length next = held_within next n (ap is_some set.kept.here) in
    let can = new_name i.store.spots next i.names i.free.items _ c.self.invariant m s.shown n z set.kept c.requires.path c.requires.stands c.requires.free c.store_node-number.ensures.unused
    (omega (arith, here, room, c.requires.room, c.store_node-number.ensures.slots)) in
    (held i.store.spots, held next, subst (λ l. CanName i.names l (held i.store.spots) (held next) n) (sym c.spots-spots.ensures.spots) can)

pub invariant_of-self : goal.invariant_of-self
invariant_of-self c =
    let i = c.self.inside in
    let m = c.args.self.now.nodes in
    let same : i.store.nodes ≡ m = ap (λ (t : Stored). t.nodes) c.self.view_is in
    let s = stored_now i.store.spots _ i.store.nodes m c.spots-shown.ensures.stored same in
    let inv = c.self.invariant in
    let n = c.store_node-number.result in
    let next = c.store_node-number.new.store.spots in
    let set = c.store_node-number.ensures.spots in
    let z : Spot = record { parent = c.args.dir; name = c.args.name; node = record c.args.node { number = n } } in
    let room : least i.store.spare (length i.names.owned.items - length i.store.spots) (vec_capacity i.free - length i.store.spots) ≡ c.args.self.now.spare = ap (λ (t : Stored). t.spare) c.self.view_is in
    let here : n < length next = held_within next n (ap is_some set.kept.here) in
    let can = new_name i.store.spots next i.names i.free.items _ inv m s.shown n z set.kept c.requires.path c.requires.stands c.requires.free c.store_node-number.ensures.unused
    (omega (arith, here, room, c.requires.room, c.store_node-number.ensures.slots)) in
    let names = c.name_in.ensures in
    record {
      names_in = names.named (held i.store.spots) (held next) (subst (λ l. CanName i.names l (held i.store.spots) (held next) n) (sym c.spots-spots.ensures.spots) can);
      empty = c.store_node-number.ensures.empty;
      places = omega (arith, c.store_node-number.ensures.filled, c.store_node-number.ensures.places, inv.places);
      names_fit = omega (arith, names.numbers, room, c.requires.room, c.store_node-number.ensures.slots);
      dirs_fit = omega (arith, names.numbers, names.dirs, inv.dirs_fit);
      few_names = omega (arith, names.numbers, inv.few_names);
      free_fits = omega (arith, room, c.requires.room, c.store_node-number.ensures.slots, c.store_node-number.ensures.capacity);
    }
