use Rattle.std.proofs.Common.{◌≡◌, ◌+◌, ◌<◌, None, ap, ◌∙◌, arith, length, [], ◌∷◌, ◌++◌, rules}
use Rattle.std.specs.FinMap as fin
use Rattle.tape_types.specs.Bounds.{most_nodes}
use Rattle.file_tree.specs.declared.nodes.Node.{Node}
use Rattle.file_tree.specs.Seen.{held}
use Rattle.file_tree.proofs.ShownLemmas.{one_number}
use Rattle.file_tree.proofs.WalkLemmas.{seen}
use Rattle.file_tree.proofs.PlaceLemmas.{count_most}
use Rattle.file_tree.proofs.StoredLemmas.{stored_put, sole, still, fresh}
use Rattle.file_tree.proofs.KeptLemmas.{kept_now, spots_now}
use Rattle.file_tree.proofs.store.Store.fill.Goals as goal

pub fill_spot-requires-clause-empty : goal.fill_spot-requires-clause-empty
fill_spot-requires-clause-empty c =
    ap (λ l. held l c.args.number) (spots_now c.self.inside c.args.self.now c.self.view_is) ∙ c.requires.empty

pub overflow_add-self : goal.overflow_add-self
overflow_add-self c =
    omega (arith, count_most c.self.inside.spots.items c.self.inside.count c.args.self.now.nodes (kept_now c.self.inside c.args.self.now c.self.invariant c.self.view_is))

pub invariant_of-self-inside : goal.invariant_of-self-inside
invariant_of-self-inside c =
    let spots = c.self.inside.spots.items in
    let m = c.args.self.now.nodes in
    let s = kept_now c.self.inside c.args.self.now c.self.invariant c.self.view_is in
    let place = c.args.number in
    let next = c.fill_spot.new.spots.items in
    let node = c.numbered.result in
    let now = fin.insert m (c.requires.path ++ c.args.name ∷ []) node in
    let same = spots_now c.self.inside c.args.self.now c.self.view_is in
    let empty : held spots place ≡ None = ap (λ l. held l place) same ∙ c.requires.empty in
    let fits : place < most_nodes = omega (arith, s.few, c.requires.within, ap length same) in
    let t = stored_put spots next c.self.inside.count m s c.requires.path c.args.name c.args.dir node place c.requires.stands c.requires.free (ap (λ (n : Node). n.number) c.numbered.ensures) empty fits c.fill_spot.ensures.set c.fill_spot.ensures.filled in
    (seen next now t.shown, tt)

pub invariant_of-self : goal.invariant_of-self
invariant_of-self c =
    let spots = c.self.inside.spots.items in
    let m = c.args.self.now.nodes in
    let s = kept_now c.self.inside c.args.self.now c.self.invariant c.self.view_is in
    let place = c.args.number in
    let next = c.fill_spot.new.spots.items in
    let node = c.numbered.result in
    let now = fin.insert m (c.requires.path ++ c.args.name ∷ []) node in
    let same = spots_now c.self.inside c.args.self.now c.self.view_is in
    let empty : held spots place ≡ None = ap (λ l. held l place) same ∙ c.requires.empty in
    let fits : place < most_nodes = omega (arith, s.few, c.requires.within, ap length same) in
    let t = stored_put spots next c.self.inside.count m s c.requires.path c.args.name c.args.dir node place c.requires.stands c.requires.free (ap (λ (n : Node). n.number) c.numbered.ensures) empty fits c.fill_spot.ensures.set c.fill_spot.ensures.filled in
    still next (c.self.inside.count + 1) now _ (search rules) t

pub returns-clause-put : goal.returns-clause-put
returns-clause-put c path stood =
    let spots = c.self.inside.spots.items in
    let m = c.args.self.now.nodes in
    let s = kept_now c.self.inside c.args.self.now c.self.invariant c.self.view_is in
    let place = c.args.number in
    let next = c.fill_spot.new.spots.items in
    let node = c.numbered.result in
    let now = fin.insert m (c.requires.path ++ c.args.name ∷ []) node in
    let same = spots_now c.self.inside c.args.self.now c.self.view_is in
    let empty : held spots place ≡ None = ap (λ l. held l place) same ∙ c.requires.empty in
    let fits : place < most_nodes = omega (arith, s.few, c.requires.within, ap length same) in
    let t = stored_put spots next c.self.inside.count m s c.requires.path c.args.name c.args.dir node place c.requires.stands c.requires.free (ap (λ (n : Node). n.number) c.numbered.ensures) empty fits c.fill_spot.ensures.set c.fill_spot.ensures.filled in
    sole next (c.self.inside.count + 1) now _ (search rules) t
    ∙ ap (λ p. fin.insert m (p ++ c.args.name ∷ []) node) (one_number (held spots) m s.shown c.requires.path path c.args.dir c.requires.stands stood)
    ∙ ap (fin.insert m (path ++ c.args.name ∷ [])) c.numbered.ensures

pub returns-clause-fresh : goal.returns-clause-fresh
returns-clause-fresh c path stood =
    let s = kept_now c.self.inside c.args.self.now c.self.invariant c.self.view_is in
    fresh c.self.inside.spots.items c.self.inside.count c.args.self.now.nodes c.args.number s
    (ap (λ l. held l c.args.number) (spots_now c.self.inside c.args.self.now c.self.view_is) ∙ c.requires.empty) path stood
