use Rattle.std.proofs.Common.{◌-◌, sym, ap, ◌∙◌, [], ◌∷◌, ◌++◌, rules}
use Rattle.std.specs.FinMap as fin
use Rattle.file_tree.specs.Tree.{Nodes, number_at}
use Rattle.file_tree.specs.Seen.{held}
use Rattle.file_tree.proofs.ShownLemmas.{one_number}
use Rattle.file_tree.proofs.WalkLemmas.{seen}
use Rattle.file_tree.proofs.PlaceLemmas.{there_held}
use Rattle.file_tree.proofs.StoredLemmas.{taken_gone, stored_take, sole, still}
use Rattle.file_tree.proofs.KeptLemmas.{kept_now}
use Rattle.file_tree.proofs.store.Store.take.Goals as goal

pub take_spot-requires : goal.take_spot-requires
take_spot-requires c =
    let spots = c.self.inside.spots.items in
    let m = c.args.self.now.nodes in
    let s = kept_now c.self.inside c.args.self.now c.self.invariant c.self.view_is in
    there_held (held spots) m s.shown c.args.number (c.requires.front ++ c.requires.name ∷ [], c.requires.stands)

pub invariant_of-self-inside : goal.invariant_of-self-inside
invariant_of-self-inside c =
    let spots = c.self.inside.spots.items in
    let m = c.args.self.now.nodes in
    let s = kept_now c.self.inside c.args.self.now c.self.invariant c.self.view_is in
    let next = c.take_spot.new.spots.items in
    let from = c.requires.front ++ c.requires.name ∷ [] in
    let now = fin.remove m from in
    let t = stored_take spots next c.self.inside.count m s c.requires.front c.requires.name c.args.number c.requires.stands c.requires.can c.take_spot.ensures.set c.take_spot.ensures.filled in
    (seen next now t.shown, tt)

pub invariant_of-self : goal.invariant_of-self
invariant_of-self c =
    let spots = c.self.inside.spots.items in
    let m = c.args.self.now.nodes in
    let s = kept_now c.self.inside c.args.self.now c.self.invariant c.self.view_is in
    let next = c.take_spot.new.spots.items in
    let from = c.requires.front ++ c.requires.name ∷ [] in
    let now = fin.remove m from in
    let t = stored_take spots next c.self.inside.count m s c.requires.front c.requires.name c.args.number c.requires.stands c.requires.can c.take_spot.ensures.set c.take_spot.ensures.filled in
    still next (c.self.inside.count - 1) now _ (search rules) t

pub returns-clause-taken : goal.returns-clause-taken
returns-clause-taken c path stood =
    let spots = c.self.inside.spots.items in
    let m = c.args.self.now.nodes in
    let s = kept_now c.self.inside c.args.self.now c.self.invariant c.self.view_is in
    let next = c.take_spot.new.spots.items in
    let from = c.requires.front ++ c.requires.name ∷ [] in
    let now = fin.remove m from in
    let t = stored_take spots next c.self.inside.count m s c.requires.front c.requires.name c.args.number c.requires.stands c.requires.can c.take_spot.ensures.set c.take_spot.ensures.filled in
    sole next (c.self.inside.count - 1) now _ (search rules) t ∙ ap (fin.remove m) (one_number (held spots) m s.shown from path c.args.number c.requires.stands stood)

pub returns-clause-gone : goal.returns-clause-gone
returns-clause-gone c path stood =
    let spots = c.self.inside.spots.items in
    let m = c.args.self.now.nodes in
    let s = kept_now c.self.inside c.args.self.now c.self.invariant c.self.view_is in
    let next = c.take_spot.new.spots.items in
    let from = c.requires.front ++ c.requires.name ∷ [] in
    let now = fin.remove m from in
    let t = stored_take spots next c.self.inside.count m s c.requires.front c.requires.name c.args.number c.requires.stands c.requires.can c.take_spot.ensures.set c.take_spot.ensures.filled in
    taken_gone (held spots) m s.shown from c.args.number c.requires.stands path (ap (λ (n : Nodes). number_at n path) (sym (sole next (c.self.inside.count - 1) now _ (search rules) t)) ∙ stood)
