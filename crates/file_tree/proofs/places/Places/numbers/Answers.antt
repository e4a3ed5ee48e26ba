use Rattle.std.proofs.Common.{◌≡◌, ◌<◌, [], ◌∷◌, ◌++◌, length, reverse, sym, ap, ◌∙◌, subst, arith, rules}
use Rattle.std.specs.FinMap as fin
use Rattle.std.proofs.lemmas.List.{reverse-append, reverse-reverse, length-append}
use Rattle.file_tree.specs.Places.{Stored}
use Rattle.file_tree.specs.Seen.{held}
use Rattle.file_tree.proofs.PlaceLemmas.{stored_now}
use Rattle.file_tree.proofs.ShownLemmas.{one_number}
use Rattle.file_tree.proofs.RunLemmas.{above_there}
use Rattle.file_tree.proofs.PreorderLemmas.{Walked, walk_begins, walk_steps, walk_ends, walk_shorter}
use Rattle.file_tree.proofs.places.Places.numbers.Goals as goal

pub loop-number-init : goal.loop-number-init
loop-number-init c =
    let i = c.self.inside in
    let m = c.args.self.now.nodes in
    let same : i.store.nodes ≡ m = ap (λ (t : Stored). t.nodes) c.self.view_is in
    let s = stored_now i.store.spots _ i.store.nodes m c.spots-shown.ensures.stored same in
    let first : c.in_ok-open.open.items ≡ 0 ∷ [] = search rules in
    subst (λ l. Walked m l (reverse c.in_ok-open.open.items)) (sym c.new-numbers.ensures.items)
    (subst (λ l. Walked m [] (reverse l)) (sym first) (walk_begins m 0 s.shown.root))

pub run-requires : goal.run-requires
run-requires c =
    let split : c.loop-number.open.items ≡ c.pop.new.self.items ++ c.in-Some.number ∷ [] = search rules in
    let w = subst (λ l. Walked c.args.self.now.nodes c.loop-number.numbers.items l) (ap reverse split ∙ reverse-append c.pop.new.self.items (c.in-Some.number ∷ [])) c.loop-number.invariant in
    w.rest_there.0

pub loop-number-smaller : goal.loop-number-smaller
loop-number-smaller c =
    let i = c.self.inside in
    let m = c.args.self.now.nodes in
    let same : i.store.nodes ≡ m = ap (λ (t : Stored). t.nodes) c.self.view_is in
    let s = stored_now i.store.spots _ i.store.nodes m c.spots-shown.ensures.stored same in
    let split : c.loop-number.open.items ≡ c.pop.new.self.items ++ c.in-Some.number ∷ [] = search rules in
    let w = subst (λ l. Walked m c.loop-number.numbers.items l) (ap reverse split ∙ reverse-append c.pop.new.self.items (c.in-Some.number ∷ [])) c.loop-number.invariant in
    let less : length c.loop-number.numbers.items < fin.len m = walk_shorter m (one_number (held i.store.spots) m s.shown) c.loop-number.numbers.items (reverse c.pop.new.self.items) c.in-Some.number w in
    let pushed : c.push.new.self.items ≡ c.loop-number.numbers.items ++ c.in-Some.number ∷ [] = search rules in
    omega (arith, less, ap length pushed, length-append c.loop-number.numbers.items (c.in-Some.number ∷ []))

pub loop-number-preserved : goal.loop-number-preserved
loop-number-preserved c =
    let i = c.self.inside in
    let m = c.args.self.now.nodes in
    let same : i.store.nodes ≡ m = ap (λ (t : Stored). t.nodes) c.self.view_is in
    let s = stored_now i.store.spots _ i.store.nodes m c.spots-shown.ensures.stored same in
    let split : c.loop-number.open.items ≡ c.pop.new.self.items ++ c.in-Some.number ∷ [] = search rules in
    let w = subst (λ l. Walked m c.loop-number.numbers.items l) (ap reverse split ∙ reverse-append c.pop.new.self.items (c.in-Some.number ∷ [])) c.loop-number.invariant in
    let pushed : c.push.new.self.items ≡ c.loop-number.numbers.items ++ c.in-Some.number ∷ [] = search rules in
    let rest : reverse c.push_run.new.numbers.items ≡ c.in_ok-inside.inside.items ++ reverse c.pop.new.self.items =
    ap reverse (c.in_ok-push_run.ensures ∙ ap (λ l. c.pop.new.self.items ++ reverse l) c.deref.ensures.value) ∙ reverse-append c.pop.new.self.items (reverse c.in_ok-inside.inside.items)
    ∙ ap (λ l. l ++ reverse c.pop.new.self.items) (reverse-reverse c.in_ok-inside.inside.items) in
    let there = w.rest_there.0 in
    subst (λ l. Walked m l (reverse c.push_run.new.numbers.items)) (sym pushed)
    (subst (λ l. Walked m (c.loop-number.numbers.items ++ c.in-Some.number ∷ []) l) (sym rest)
    (walk_steps m (one_number (held i.store.spots) m s.shown) c.in-Some.number there.0 there.1 c.loop-number.numbers.items (reverse c.pop.new.self.items) c.in_ok-inside.inside.items w (c.in_ok-inside.ensures there.0 there.1)
    (above_there i.store.spots m s.shown)))

pub returns : goal.returns
returns c =
    let i = c.self.inside in
    let m = c.args.self.now.nodes in
    let same : i.store.nodes ≡ m = ap (λ (t : Stored). t.nodes) c.self.view_is in
    let s = stored_now i.store.spots _ i.store.nodes m c.spots-shown.ensures.stored same in
    let none : c.loop-number.open.items ≡ [] = search rules in
    walk_ends m (one_number (held i.store.spots) m s.shown) c.loop-number.numbers.items (subst (λ l. Walked m c.loop-number.numbers.items (reverse l)) none c.loop-number.invariant)
