use Rattle.std.proofs.Common.{◌≡◌, ◌+◌, sym, ap, ◌∙◌, refl, subst, Some, [], ◌∷◌, ◌++◌, length, arith, rules}
use Rattle.std.specs.FinMap as fin
use Rattle.file_tree.specs.declared.nodes.Node.{Node}
use Rattle.file_tree.specs.declared.nodes.Spot.{Spot}
use Rattle.file_tree.specs.Seen.{held}
use Rattle.file_tree.specs.Places.{used, IsSetIn}
use Rattle.file_tree.proofs.ShownLemmas.{one_number}
use Rattle.file_tree.proofs.WalkLemmas.{seen}
use Rattle.file_tree.proofs.PlaceLemmas.{count_most, held_past, push_in, used_push}
use Rattle.file_tree.proofs.StoredLemmas.{stored_append, sole, still, stored_same, fresh}
use Rattle.file_tree.proofs.KeptLemmas.{kept_now, spots_now}
use Rattle.file_tree.proofs.store.Store.append.Goals as goal

pub invariant_of-self-inside : goal.invariant_of-self-inside
invariant_of-self-inside c =
    let spots = c.self.inside.spots.items in
    let m = c.args.self.now.nodes in
    let s = kept_now c.self.inside c.args.self.now c.self.invariant c.self.view_is in
    let next = c.push.new.self.items in
    let same : next ≡ spots = search rules in
    let t = stored_same spots next c.self.inside.count m s same in
    (seen next m t.shown, tt)

pub invariant_of-self : goal.invariant_of-self
invariant_of-self c =
    let spots = c.self.inside.spots.items in
    let m = c.args.self.now.nodes in
    let s = kept_now c.self.inside c.args.self.now c.self.invariant c.self.view_is in
    let next = c.push.new.self.items in
    let same : next ≡ spots = search rules in
    let t = stored_same spots next c.self.inside.count m s same in
    still next c.self.inside.count m _ (search rules) t

pub overflow_add-self : goal.overflow_add-self
overflow_add-self c =
    let spots = c.self.inside.spots.items in
    let m = c.args.self.now.nodes in
    let s = kept_now c.self.inside c.args.self.now c.self.invariant c.self.view_is in
    omega (arith, count_most spots c.self.inside.count m s)

pub invariant_of-self-inside-2 : goal.invariant_of-self-inside-2
invariant_of-self-inside-2 c =
    let spots = c.self.inside.spots.items in
    let m = c.args.self.now.nodes in
    let s = kept_now c.self.inside c.args.self.now c.self.invariant c.self.view_is in
    let next = c.push.new.self.items in
    let node = c.numbered.result in
    let slots : length spots ≡ length c.args.self.now.spots = ap length (spots_now c.self.inside c.args.self.now c.self.view_is) in
    let place : c.len-number.result ≡ length spots = search rules in
    let pushed : next ≡ spots ++ Some (record { parent = c.args.dir; name = c.args.name; node = node }) ∷ [] = search rules in
    let now = fin.insert m (c.requires.path ++ c.args.name ∷ []) node in
    let t = stored_append spots next c.self.inside.count m s c.requires.path c.args.name c.args.dir node c.requires.stands c.requires.free (ap (λ (n : Node). n.number) c.numbered.ensures ∙ place) (omega (arith, slots, c.requires.space)) pushed in
    (seen next now t.shown, tt)

pub invariant_of-self-2 : goal.invariant_of-self-2
invariant_of-self-2 c =
    let spots = c.self.inside.spots.items in
    let m = c.args.self.now.nodes in
    let s = kept_now c.self.inside c.args.self.now c.self.invariant c.self.view_is in
    let next = c.push.new.self.items in
    let node = c.numbered.result in
    let slots : length spots ≡ length c.args.self.now.spots = ap length (spots_now c.self.inside c.args.self.now c.self.view_is) in
    let place : c.len-number.result ≡ length spots = search rules in
    let pushed : next ≡ spots ++ Some (record { parent = c.args.dir; name = c.args.name; node = node }) ∷ [] = search rules in
    let now = fin.insert m (c.requires.path ++ c.args.name ∷ []) node in
    let t = stored_append spots next c.self.inside.count m s c.requires.path c.args.name c.args.dir node c.requires.stands c.requires.free (ap (λ (n : Node). n.number) c.numbered.ensures ∙ place) (omega (arith, slots, c.requires.space)) pushed in
    still next (c.self.inside.count + 1) now _ (search rules) t

pub returns-clause-nodes : goal.returns-clause-nodes
returns-clause-nodes c path stood =
    let spots = c.self.inside.spots.items in
    let m = c.args.self.now.nodes in
    let s = kept_now c.self.inside c.args.self.now c.self.invariant c.self.view_is in
    let next = c.push.new.self.items in
    let node = c.numbered.result in
    let slots : length spots ≡ length c.args.self.now.spots = ap length (spots_now c.self.inside c.args.self.now c.self.view_is) in
    let place : c.len-number.result ≡ length spots = search rules in
    let pushed : next ≡ spots ++ Some (record { parent = c.args.dir; name = c.args.name; node = node }) ∷ [] = search rules in
    let now = fin.insert m (c.requires.path ++ c.args.name ∷ []) node in
    let t = stored_append spots next c.self.inside.count m s c.requires.path c.args.name c.args.dir node c.requires.stands c.requires.free (ap (λ (n : Node). n.number) c.numbered.ensures ∙ place) (omega (arith, slots, c.requires.space)) pushed in
    sole next (c.self.inside.count + 1) now _ (search rules) t
    ∙ ap (λ p. fin.insert m (p ++ c.args.name ∷ []) node) (one_number (held spots) m s.shown c.requires.path path c.args.dir c.requires.stands stood)
    ∙ ap (fin.insert m (path ++ c.args.name ∷ [])) (c.numbered.ensures ∙ ap (λ k. record c.args.node { number = k }) (place ∙ slots))

pub returns-in_err-push-clause-fresh : goal.returns-in_err-push-clause-fresh
returns-in_err-push-clause-fresh c path is =
    let spots = c.self.inside.spots.items in
    let s = kept_now c.self.inside c.args.self.now c.self.invariant c.self.view_is in
    let same = spots_now c.self.inside c.args.self.now c.self.view_is in
    fresh spots c.self.inside.count c.args.self.now.nodes (length spots) s (held_past spots (length spots) (omega arith)) path (is ∙ ap (λ l. Some (length l)) (sym same))

pub returns-clause-fresh : goal.returns-clause-fresh
returns-clause-fresh c path is =
    let spots = c.self.inside.spots.items in
    let s = kept_now c.self.inside c.args.self.now c.self.invariant c.self.view_is in
    let same = spots_now c.self.inside c.args.self.now c.self.view_is in
    fresh spots c.self.inside.count c.args.self.now.nodes (length spots) s (held_past spots (length spots) (omega arith)) path (is ∙ ap (λ l. Some (length l)) (sym same))

pub returns-clause-spots : goal.returns-clause-spots
returns-clause-spots c =
    let spots = c.self.inside.spots.items in
    let same = spots_now c.self.inside c.args.self.now c.self.view_is in
    let place : c.len-number.result ≡ length spots = search rules in
    let node : c.numbered.result ≡ record c.args.node { number = length spots } = c.numbered.ensures ∙ ap (λ k. record c.args.node { number = k }) place in
    let z : Spot = record { parent = c.args.dir; name = c.args.name; node = record c.args.node { number = length spots } } in
    let pushed : c.push.new.self.items ≡ spots ++ Some (record { parent = c.args.dir; name = c.args.name; node = c.numbered.result }) ∷ [] = search rules in
    let all : c.push.new.self.items ≡ spots ++ Some z ∷ [] = pushed ∙ ap (λ n. spots ++ Some (record { parent = c.args.dir; name = c.args.name; node = n }) ∷ []) node in
    subst (λ l. IsSetIn l c.push.new.self.items (length l) (Some (record { parent = c.args.dir; name = c.args.name; node = record c.args.node { number = length l } }))) same
    (push_in spots c.push.new.self.items (length spots) z all refl)

pub returns-clause-filled : goal.returns-clause-filled
returns-clause-filled c =
    let spots = c.self.inside.spots.items in
    let same = spots_now c.self.inside c.args.self.now c.self.view_is in
    let z : Spot = record { parent = c.args.dir; name = c.args.name; node = c.numbered.result } in
    let pushed : c.push.new.self.items ≡ spots ++ Some z ∷ [] = search rules in
    ap used pushed ∙ used_push spots z ∙ ap (λ l. used l + 1) same
