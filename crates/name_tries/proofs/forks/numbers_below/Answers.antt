use Rattle.std.proofs.Common.{◌≡◌, [], ◌∷◌, ◌++◌, ◌+◌, length, sym, ap, ◌∙◌, subst, arith, rules}
use Rattle.std.proofs.lemmas.List.{length-append}
use Rattle.name_tries.proofs.ItemLemmas.{read_at}
use Rattle.name_tries.proofs.ListLemmas.{IsOver, over_begins, over_leaf, fork_open, over_fork, open_enough}
use Rattle.name_tries.proofs.forks.numbers_below.Goals as goal

pub loop-at-init : goal.loop-at-init
loop-at-init c = λ t once shown.
    let one : c.in_ok-left.left.items ≡ c.args.root ∷ [] = search rules in
    over_begins c.args.forks.now c.args.root t c.new-numbers.result.items c.in_ok-left.left.items shown c.new-numbers.ensures.items one

pub loop-at-smaller-in-Continue-branch-2 : goal.loop-at-smaller-in-Continue-branch-2
loop-at-smaller-in-Continue-branch-2 c =
    let front = c.pop.new.self.items in
    let numbers = c.loop-at.numbers.items in
    let is : c.loop-at.left.items ≡ front ++ c.in-Some.at ∷ [] = search rules in
    let pushed : c.push.new.self.items ≡ numbers ++ c.in-Leaf.number ∷ [] = search rules in
    let r = c.requires in
    let enough = open_enough c.args.forks.now r.0 numbers c.loop-at.left.items front c.in-Some.at (c.loop-at.invariant r.0 r.1 r.2) is r.1 c.args.root r.2 in
    omega (arith, enough, ap length is, length-append front (c.in-Some.at ∷ []), ap length pushed, length-append numbers (c.in-Leaf.number ∷ []))

pub loop-at-preserved-in-Continue-branch-2 : goal.loop-at-preserved-in-Continue-branch-2
loop-at-preserved-in-Continue-branch-2 c = λ t once shown.
    let front = c.pop.new.self.items in
    let numbers = c.loop-at.numbers.items in
    let is : c.loop-at.left.items ≡ front ++ c.in-Some.at ∷ [] = search rules in
    let pushed : c.push.new.self.items ≡ numbers ++ c.in-Leaf.number ∷ [] = search rules in
    subst (λ l. IsOver c.args.forks.now t l front) (sym pushed)
    (over_leaf c.args.forks.now t numbers c.loop-at.left.items front c.in-Some.at (c.loop-at.invariant t once shown) is c.in-Leaf.number (sym c.target.ensures ∙ c.in-Leaf.is))

pub bounds-forks-place : goal.bounds-forks-place
bounds-forks-place c =
    let front = c.pop.new.self.items in
    let is : c.loop-at.left.items ≡ front ++ c.in-Some.at ∷ [] = search rules in
    let r = c.requires in
    fork_open c.args.forks.now r.0 c.loop-at.numbers.items c.loop-at.left.items front c.in-Some.at (c.loop-at.invariant r.0 r.1 r.2) is
    c.in-Inner.place (sym c.target.ensures ∙ c.in-Inner.is)

pub loop-at-smaller : goal.loop-at-smaller
loop-at-smaller c =
    let front = c.pop.new.self.items in
    let numbers = c.loop-at.numbers.items in
    let is : c.loop-at.left.items ≡ front ++ c.in-Some.at ∷ [] = search rules in
    let r = c.requires in
    let enough = open_enough c.args.forks.now r.0 numbers c.loop-at.left.items front c.in-Some.at (c.loop-at.invariant r.0 r.1 r.2) is r.1 c.args.root r.2 in
    let k = c.index-forks-place.result in
    let more : length c.push_sides.new.left.items ≡ length front + 2 =
    ap length (c.in_ok-push_sides-in-Inner.ensures {u = tt}) ∙ length-append front (k.one ∷ k.zero ∷ []) in
    omega (arith, enough, ap length is, length-append front (c.in-Some.at ∷ []), more)

pub loop-at-preserved : goal.loop-at-preserved
loop-at-preserved c = λ t once shown.
    let front = c.pop.new.self.items in
    let numbers = c.loop-at.numbers.items in
    let is : c.loop-at.left.items ≡ front ++ c.in-Some.at ∷ [] = search rules in
    let o = c.loop-at.invariant t once shown in
    let k = c.index-forks-place.result in
    let there = read_at c.args.forks.now c.in-Inner.place k
    (fork_open c.args.forks.now t numbers c.loop-at.left.items front c.in-Some.at o is c.in-Inner.place (sym c.target.ensures ∙ c.in-Inner.is)) c.index-forks-place.is in
    subst (λ l. IsOver c.args.forks.now t numbers l) (sym (c.in_ok-push_sides-in-Inner.ensures {u = tt}))
    (over_fork c.args.forks.now t numbers c.loop-at.left.items front c.in-Some.at o is c.in-Inner.place k (sym c.target.ensures ∙ c.in-Inner.is) there)
