use Rattle.std.proofs.Common.{◌≡◌, [], ◌∷◌, ◌++◌, None, Some, sym, ap, subst, arith}
use Rattle.plain_tree.proofs.KeptLemmas.{below_self}
use Rattle.file_tree.specs.declared.nodes.Spot.{Spot}
use Rattle.file_tree.specs.Places.{Stored}
use Rattle.file_tree.specs.Seen.{held, IsKept}
use Rattle.file_tree.specs.Tree.{whole}
use Rattle.file_tree.specs.Beside.{IsNode, AreNamed, CanName}
use Rattle.file_tree.proofs.PlainLemmas.{none_plain}
use Rattle.file_tree.proofs.PlaceLemmas.{stored_now}
use Rattle.file_tree.proofs.IndexedLemmas.{is_there, node_there, without, taken_out, still_empty, next_name}
use Rattle.file_tree.proofs.places.Places.shift.Goals as goal

pub name_out-requires-clause-named : goal.name_out-requires-clause-named
name_out-requires-clause-named c = subst (λ l. AreNamed c.self.inside.names (held l)) (sym c.spots.ensures.spots) c.self.invariant.names_in

pub name_out-requires-clause-there : goal.name_out-requires-clause-there
name_out-requires-clause-there c =
    let i = c.self.inside in
    let m = c.args.self.now.nodes in
    let same : i.store.nodes ≡ m = ap (λ (t : Stored). t.nodes) c.self.view_is in
    let s = stored_now i.store.spots _ i.store.nodes m c.spots.ensures.stored same in
    subst (λ l. IsNode (held l) c.args.number) (sym c.spots.ensures.spots) (node_there i.store.spots m s.shown c.requires.front c.requires.old_name c.args.number c.requires.stands)

pub name_in-requires : goal.name_in-requires
name_in-requires c =
    let i = c.self.inside in
    let m = c.args.self.now.nodes in
    let same : i.store.nodes ≡ m = ap (λ (t : Stored). t.nodes) c.self.view_is in
    let s = stored_now i.store.spots _ i.store.nodes m c.spots.ensures.stored same in
    let n = c.args.number in
    let next = c.shift.new.self.spots in
    let at = held i.store.spots in
    let node = node_there i.store.spots m s.shown c.requires.front c.requires.old_name n c.requires.stands in
    let old = is_there at n node.1 in
    let set = c.shift.ensures.spots old.0 old.1 in
    let z : Spot = record { parent = c.args.dir; name = c.args.name; node = old.0.node } in
    let out = c.name_out.ensures in
    let fewer = out.named (without at n) (subst (λ l. IsKept (held l) (without at n) n None) (sym c.spots.ensures.spots) (taken_out at n)) in
    let free = none_plain whole m (c.requires.up ++ c.args.name ∷ []) (c.requires.can.free (c.requires.up ++ c.args.name ∷ []) (below_self (c.requires.up ++ c.args.name ∷ []))) in
    let can = next_name i.store.spots next i.names i.free.items _ c.self.invariant m s.shown n z set.kept c.requires.up c.requires.dir_stands free node c.name_out.new.names fewer out.numbers out.dirs in
    (without at n, held next, subst (λ l. CanName c.name_out.new.names l (without at n) (held next) n) (sym c.spots-spots.ensures.spots) can)

pub invariant_of-self : goal.invariant_of-self
invariant_of-self c =
    let i = c.self.inside in
    let m = c.args.self.now.nodes in
    let same : i.store.nodes ≡ m = ap (λ (t : Stored). t.nodes) c.self.view_is in
    let s = stored_now i.store.spots _ i.store.nodes m c.spots.ensures.stored same in
    let inv = c.self.invariant in
    let n = c.args.number in
    let next = c.shift.new.self.spots in
    let at = held i.store.spots in
    let node = node_there i.store.spots m s.shown c.requires.front c.requires.old_name n c.requires.stands in
    let old = is_there at n node.1 in
    let set = c.shift.ensures.spots old.0 old.1 in
    let z : Spot = record { parent = c.args.dir; name = c.args.name; node = old.0.node } in
    let out = c.name_out.ensures in
    let fewer = out.named (without at n) (subst (λ l. IsKept (held l) (without at n) n None) (sym c.spots.ensures.spots) (taken_out at n)) in
    let free = none_plain whole m (c.requires.up ++ c.args.name ∷ []) (c.requires.can.free (c.requires.up ++ c.args.name ∷ []) (below_self (c.requires.up ++ c.args.name ∷ []))) in
    let can = next_name i.store.spots next i.names i.free.items _ inv m s.shown n z set.kept c.requires.up c.requires.dir_stands free node c.name_out.new.names fewer out.numbers out.dirs in
    let names = c.name_in.ensures in
    record {
      names_in = names.named (without at n) (held next) (subst (λ l. CanName c.name_out.new.names l (without at n) (held next) n) (sym c.spots-spots.ensures.spots) can);
      empty = still_empty i.store.spots next i.free.items n (Some z) inv.empty node.1 set.kept c.shift.ensures.slots;
      places = omega (arith, c.shift.ensures.filled, c.shift.ensures.slots, inv.places);
      names_fit = omega (arith, names.numbers, out.numbers, inv.names_fit, c.shift.ensures.slots);
      dirs_fit = omega (arith, names.numbers, names.dirs, out.numbers, out.dirs, inv.dirs_fit);
      few_names = omega (arith, names.numbers, out.numbers, inv.few_names);
      free_fits = omega (arith, inv.free_fits, c.shift.ensures.slots);
    }
