use Rattle.std.proofs.Common.{◌≡◌, [], ◌∷◌, ◌++◌, length, sym, ap, ◌∙◌, subst, arith, rules}
use Rattle.std.specs.List.{insert}
use Rattle.std.proofs.lemmas.List.{length-append}
use Rattle.std.proofs.lemmas.List.Edits.{insert_end}
use Rattle.file_tree.specs.Beside.{IsNode, AreNamed}
use Rattle.file_tree.specs.Places.{Stored}
use Rattle.file_tree.specs.Seen.{held, IsKept}
use Rattle.file_tree.proofs.PlaceLemmas.{stored_now}
use Rattle.file_tree.proofs.IndexedLemmas.{node_there, one_more_empty}
use Rattle.file_tree.proofs.places.Places.take.Goals as goal

pub name_out-requires-clause-named : goal.name_out-requires-clause-named
name_out-requires-clause-named c = subst (λ l. AreNamed c.self.inside.names (held l)) (sym c.spots.ensures.spots) c.self.invariant.names_in

pub name_out-requires-clause-there : goal.name_out-requires-clause-there
name_out-requires-clause-there c =
    let i = c.self.inside in
    let m = c.args.self.now.nodes in
    let same : i.store.nodes ≡ m = ap (λ (t : Stored). t.nodes) c.self.view_is in
    let s = stored_now i.store.spots _ i.store.nodes m c.spots.ensures.stored same in
    subst (λ l. IsNode (held l) c.args.number) (sym c.spots.ensures.spots) (node_there i.store.spots m s.shown c.requires.front c.requires.name c.args.number c.requires.stands)

pub invariant_of-self : goal.invariant_of-self
invariant_of-self c =
    let i = c.self.inside in
    let m = c.args.self.now.nodes in
    let same : i.store.nodes ≡ m = ap (λ (t : Stored). t.nodes) c.self.view_is in
    let s = stored_now i.store.spots _ i.store.nodes m c.spots.ensures.stored same in
    let inv = c.self.invariant in
    let n = c.args.number in
    let next = c.take.new.self.spots in
    let set = c.take.ensures.spots in
    let node = node_there i.store.spots m s.shown c.requires.front c.requires.name n c.requires.stands in
    let end : c.len-end.result ≡ length i.free.items = search rules in
    let put_in : c.insert.new.self.items ≡ insert i.free.items c.len-end.result n = search rules in
    let more : c.insert.new.self.items ≡ i.free.items ++ n ∷ [] = put_in ∙ ap (λ k. insert i.free.items k n) end ∙ insert_end i.free.items n in
    let names = c.name_out.ensures in
    record {
      names_in = names.named (held next) (subst (λ l. IsKept (held l) (held next) n _) (sym c.spots.ensures.spots) set.kept);
      empty = one_more_empty i.store.spots next i.free.items c.insert.new.self.items n inv.empty node.1 set c.take.ensures.slots more;
      places = omega (arith, c.take.ensures.filled, c.take.ensures.slots, inv.places, ap length more, length-append i.free.items (n ∷ []));
      names_fit = omega (arith, names.numbers, inv.names_fit, c.take.ensures.slots);
      dirs_fit = omega (arith, names.numbers, names.dirs, inv.dirs_fit);
      few_names = omega (arith, names.numbers, inv.few_names);
      free_fits = omega (arith, inv.free_fits, c.take.ensures.slots, c.insert.ensures.capacity);
    }
