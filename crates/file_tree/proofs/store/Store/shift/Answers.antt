use Rattle.std.proofs.Common.{ap, ◌∙◌, [], ◌∷◌, ◌++◌, rules}
use Rattle.file_tree.specs.Tree.{moved}
use Rattle.file_tree.specs.Seen.{held}
use Rattle.file_tree.proofs.ShownLemmas.{one_number}
use Rattle.file_tree.proofs.WalkLemmas.{seen}
use Rattle.file_tree.proofs.PlaceLemmas.{there_held}
use Rattle.file_tree.proofs.StoredLemmas.{stored_shift, sole, still}
use Rattle.file_tree.proofs.KeptLemmas.{kept_now}
use Rattle.file_tree.proofs.store.Store.shift.Goals as goal

pub shift_spot-requires : goal.shift_spot-requires
shift_spot-requires c =
    let spots = c.self.inside.spots.items in
    let m = c.args.self.now.nodes in
    let s = kept_now c.self.inside c.args.self.now c.self.invariant c.self.view_is in
    there_held (held spots) m s.shown c.args.number (c.requires.front ++ c.requires.old_name ∷ [], c.requires.stands)

pub invariant_of-self-inside : goal.invariant_of-self-inside
invariant_of-self-inside c =
    let spots = c.self.inside.spots.items in
    let m = c.args.self.now.nodes in
    let s = kept_now c.self.inside c.args.self.now c.self.invariant c.self.view_is in
    let next = c.shift_spot.new.spots.items in
    let from = c.requires.front ++ c.requires.old_name ∷ [] in
    let now = moved from (c.requires.up ++ c.args.name ∷ []) m in
    let t = stored_shift spots next c.self.inside.count m s c.requires.front c.requires.up c.requires.old_name c.args.name c.args.number c.args.dir c.requires.stands c.requires.dir_stands c.requires.can c.shift_spot.ensures.set c.shift_spot.ensures.filled in
    (seen next now t.shown, tt)

pub invariant_of-self : goal.invariant_of-self
invariant_of-self c =
    let spots = c.self.inside.spots.items in
    let m = c.args.self.now.nodes in
    let s = kept_now c.self.inside c.args.self.now c.self.invariant c.self.view_is in
    let next = c.shift_spot.new.spots.items in
    let from = c.requires.front ++ c.requires.old_name ∷ [] in
    let now = moved from (c.requires.up ++ c.args.name ∷ []) m in
    let t = stored_shift spots next c.self.inside.count m s c.requires.front c.requires.up c.requires.old_name c.args.name c.args.number c.args.dir c.requires.stands c.requires.dir_stands c.requires.can c.shift_spot.ensures.set c.shift_spot.ensures.filled in
    still next c.self.inside.count now _ (search rules) t

pub returns-clause-shifted : goal.returns-clause-shifted
returns-clause-shifted c a b stood up_stood =
    let spots = c.self.inside.spots.items in
    let m = c.args.self.now.nodes in
    let s = kept_now c.self.inside c.args.self.now c.self.invariant c.self.view_is in
    let next = c.shift_spot.new.spots.items in
    let from = c.requires.front ++ c.requires.old_name ∷ [] in
    let now = moved from (c.requires.up ++ c.args.name ∷ []) m in
    let t = stored_shift spots next c.self.inside.count m s c.requires.front c.requires.up c.requires.old_name c.args.name c.args.number c.args.dir c.requires.stands c.requires.dir_stands c.requires.can c.shift_spot.ensures.set c.shift_spot.ensures.filled in
    sole next c.self.inside.count now _ (search rules) t
    ∙ ap (λ p. moved p (c.requires.up ++ c.args.name ∷ []) m) (one_number (held spots) m s.shown from a c.args.number c.requires.stands stood)
    ∙ ap (λ p. moved a (p ++ c.args.name ∷ []) m) (one_number (held spots) m s.shown c.requires.up b c.args.dir c.requires.dir_stands up_stood)
