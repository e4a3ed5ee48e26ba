use Rattle.std.proofs.Common.{◌≡◌, ◌≢◌, ℕ, ◌+◌, ◌<◌, ◌≤◌, List, [], ◌∷◌, ◌++◌, length, vec_len, vec_capacity, IsSome, refl, ap, sym, subst, ◌∙◌, rules}
use Rattle.std.specs.List.{AllByRecursion}
use Rattle.head_queue.specs.Waiting.{Waiting}
use Rattle.head_queue.specs.Queued.{Queued, by_arrival}
use Rattle.head_queue.specs.Ready.{AreReady}
use Rattle.head_queue.proofs.ArrivalLemmas.{sorted_more, sorted_all}
use Rattle.head_queue.proofs.ReadyLemmas.{IsTaken, taken, popped, ready_more}
use Rattle.head_queue.proofs.queues.Queue.add.Goals as goal

pub insert-requires-clause-some : goal.insert-requires-clause-some
insert-requires-clause-some c =
    let len : vec_len c.self.inside.free ≡ length c.self.inside.free.items = search rules in
    let some : 0 < vec_len c.self.inside.free = c.pop.ensures.variant.0 (subst IsSome (sym c.in-Some.is) refl) in
    let is : c.self.inside.free.items ≡ c.pop.new.self.items ++ c.in-Some.node ∷ [] =
    popped c.self.inside.free.items c.pop.new.self.items c.in-Some.node (vec_len c.self.inside.free) len some (sym c.in-Some.is ∙ c.pop.ensures.value 0 some) c.pop.ensures.rest in
    let t : IsTaken c.self.inside.places.order c.self.inside.places.size c.self.inside.owners.pairs c.pop.new.self.items c.in-Some.node =
    taken c.self.inside.places.order c.self.inside.places.size c.self.inside.owners.pairs c.self.inside.owners.size c.self.inside.free.items c.self.inside.arrived (vec_capacity c.self.inside.free) c.pop.new.self.items c.in-Some.node c.self.invariant is in
    t.some

pub insert-requires-clause-within : goal.insert-requires-clause-within
insert-requires-clause-within c =
    let len : vec_len c.self.inside.free ≡ length c.self.inside.free.items = search rules in
    let some : 0 < vec_len c.self.inside.free = c.pop.ensures.variant.0 (subst IsSome (sym c.in-Some.is) refl) in
    let is : c.self.inside.free.items ≡ c.pop.new.self.items ++ c.in-Some.node ∷ [] =
    popped c.self.inside.free.items c.pop.new.self.items c.in-Some.node (vec_len c.self.inside.free) len some (sym c.in-Some.is ∙ c.pop.ensures.value 0 some) c.pop.ensures.rest in
    let t : IsTaken c.self.inside.places.order c.self.inside.places.size c.self.inside.owners.pairs c.pop.new.self.items c.in-Some.node =
    taken c.self.inside.places.order c.self.inside.places.size c.self.inside.owners.pairs c.self.inside.owners.size c.self.inside.free.items c.self.inside.arrived (vec_capacity c.self.inside.free) c.pop.new.self.items c.in-Some.node c.self.invariant is in
    t.within

pub insert-requires-clause-apart : goal.insert-requires-clause-apart
insert-requires-clause-apart c =
    let len : vec_len c.self.inside.free ≡ length c.self.inside.free.items = search rules in
    let some : 0 < vec_len c.self.inside.free = c.pop.ensures.variant.0 (subst IsSome (sym c.in-Some.is) refl) in
    let is : c.self.inside.free.items ≡ c.pop.new.self.items ++ c.in-Some.node ∷ [] =
    popped c.self.inside.free.items c.pop.new.self.items c.in-Some.node (vec_len c.self.inside.free) len some (sym c.in-Some.is ∙ c.pop.ensures.value 0 some) c.pop.ensures.rest in
    let t : IsTaken c.self.inside.places.order c.self.inside.places.size c.self.inside.owners.pairs c.pop.new.self.items c.in-Some.node =
    taken c.self.inside.places.order c.self.inside.places.size c.self.inside.owners.pairs c.self.inside.owners.size c.self.inside.free.items c.self.inside.arrived (vec_capacity c.self.inside.free) c.pop.new.self.items c.in-Some.node c.self.invariant is in
    t.apart

pub add-requires-clause-some : goal.add-requires-clause-some
add-requires-clause-some c =
    let len : vec_len c.self.inside.free ≡ length c.self.inside.free.items = search rules in
    let some : 0 < vec_len c.self.inside.free = c.pop.ensures.variant.0 (subst IsSome (sym c.in-Some.is) refl) in
    let is : c.self.inside.free.items ≡ c.pop.new.self.items ++ c.in-Some.node ∷ [] =
    popped c.self.inside.free.items c.pop.new.self.items c.in-Some.node (vec_len c.self.inside.free) len some (sym c.in-Some.is ∙ c.pop.ensures.value 0 some) c.pop.ensures.rest in
    let t : IsTaken c.self.inside.places.order c.self.inside.places.size c.self.inside.owners.pairs c.pop.new.self.items c.in-Some.node =
    taken c.self.inside.places.order c.self.inside.places.size c.self.inside.owners.pairs c.self.inside.owners.size c.self.inside.free.items c.self.inside.arrived (vec_capacity c.self.inside.free) c.pop.new.self.items c.in-Some.node c.self.invariant is in
    t.some

pub add-requires-clause-within : goal.add-requires-clause-within
add-requires-clause-within c =
    let len : vec_len c.self.inside.free ≡ length c.self.inside.free.items = search rules in
    let some : 0 < vec_len c.self.inside.free = c.pop.ensures.variant.0 (subst IsSome (sym c.in-Some.is) refl) in
    let is : c.self.inside.free.items ≡ c.pop.new.self.items ++ c.in-Some.node ∷ [] =
    popped c.self.inside.free.items c.pop.new.self.items c.in-Some.node (vec_len c.self.inside.free) len some (sym c.in-Some.is ∙ c.pop.ensures.value 0 some) c.pop.ensures.rest in
    let t : IsTaken c.self.inside.places.order c.self.inside.places.size c.self.inside.owners.pairs c.pop.new.self.items c.in-Some.node =
    taken c.self.inside.places.order c.self.inside.places.size c.self.inside.owners.pairs c.self.inside.owners.size c.self.inside.free.items c.self.inside.arrived (vec_capacity c.self.inside.free) c.pop.new.self.items c.in-Some.node c.self.invariant is in
    subst (λ (n : ℕ). c.in-Some.node ≤ n) (sym c.self.invariant.alike) t.within

pub add-requires-clause-apart : goal.add-requires-clause-apart
add-requires-clause-apart c =
    let len : vec_len c.self.inside.free ≡ length c.self.inside.free.items = search rules in
    let some : 0 < vec_len c.self.inside.free = c.pop.ensures.variant.0 (subst IsSome (sym c.in-Some.is) refl) in
    let is : c.self.inside.free.items ≡ c.pop.new.self.items ++ c.in-Some.node ∷ [] =
    popped c.self.inside.free.items c.pop.new.self.items c.in-Some.node (vec_len c.self.inside.free) len some (sym c.in-Some.is ∙ c.pop.ensures.value 0 some) c.pop.ensures.rest in
    let t : IsTaken c.self.inside.places.order c.self.inside.places.size c.self.inside.owners.pairs c.pop.new.self.items c.in-Some.node =
    taken c.self.inside.places.order c.self.inside.places.size c.self.inside.owners.pairs c.self.inside.owners.size c.self.inside.free.items c.self.inside.arrived (vec_capacity c.self.inside.free) c.pop.new.self.items c.in-Some.node c.self.invariant is in
    t.unowned

pub invariant_of-self : goal.invariant_of-self
invariant_of-self c =
    let len : vec_len c.self.inside.free ≡ length c.self.inside.free.items = search rules in
    let some : 0 < vec_len c.self.inside.free = c.pop.ensures.variant.0 (subst IsSome (sym c.in-Some.is) refl) in
    let is : c.self.inside.free.items ≡ c.pop.new.self.items ++ c.in-Some.node ∷ [] =
    popped c.self.inside.free.items c.pop.new.self.items c.in-Some.node (vec_len c.self.inside.free) len some (sym c.in-Some.is ∙ c.pop.ensures.value 0 some) c.pop.ensures.rest in
    let t : IsTaken c.self.inside.places.order c.self.inside.places.size c.self.inside.owners.pairs c.pop.new.self.items c.in-Some.node =
    taken c.self.inside.places.order c.self.inside.places.size c.self.inside.owners.pairs c.self.inside.owners.size c.self.inside.free.items c.self.inside.arrived (vec_capacity c.self.inside.free) c.pop.new.self.items c.in-Some.node c.self.invariant is in
    let fits : c.self.inside.places.size ≤ vec_capacity c.pop.new.self = (let room = c.self.invariant.room in search rules) in
    subst (λ (n : ℕ). AreReady c.insert.new.self.order n c.add.new.self.pairs c.add.new.self.size c.pop.new.self.items (c.self.inside.arrived + 1) (vec_capacity c.pop.new.self)) (sym c.insert.ensures.size)
    (subst (λ (n : ℕ). AreReady c.insert.new.self.order c.self.inside.places.size c.add.new.self.pairs n c.pop.new.self.items (c.self.inside.arrived + 1) (vec_capacity c.pop.new.self)) (sym c.add.ensures.size)
    (ready_more c.self.inside.places.order c.insert.new.self.order c.self.inside.places.size c.self.inside.owners.pairs c.add.new.self.pairs c.self.inside.owners.size c.self.inside.free.items c.pop.new.self.items c.self.inside.arrived
    (vec_capacity c.self.inside.free) (vec_capacity c.pop.new.self) (record { node = c.in-Some.node; owner = c.args.owner; place = c.args.place; arrival = c.self.inside.arrived })
    c.self.invariant t refl c.insert.ensures.order c.add.ensures.pairs c.add.ensures.len fits))

pub returns-clause-waiting : goal.returns-clause-waiting
returns-clause-waiting c =
    let m = c.insert.ensures.order in
    ap by_arrival m.now
    ∙ sorted_more (record { node = c.in-Some.node; owner = c.args.owner; place = c.args.place; arrival = c.self.inside.arrived }) m.front m.behind
    (subst (AllByRecursion (λ (v : Waiting). v.arrival < c.self.inside.arrived)) m.before c.self.invariant.early)
    ∙ ap (λ (ws : List Waiting). by_arrival ws ++ record { node = c.in-Some.node; owner = c.args.owner; place = c.args.place; arrival = c.self.inside.arrived } ∷ []) (sym m.before)
    ∙ ap (λ (q : Queued). q.waiting ++ record { node = c.in-Some.node; owner = c.args.owner; place = c.args.place; arrival = q.arrived } ∷ []) c.self.view_is

pub returns-clause-node : goal.returns-clause-node
returns-clause-node c =
    let len : vec_len c.self.inside.free ≡ length c.self.inside.free.items = search rules in
    let some : 0 < vec_len c.self.inside.free = c.pop.ensures.variant.0 (subst IsSome (sym c.in-Some.is) refl) in
    let is : c.self.inside.free.items ≡ c.pop.new.self.items ++ c.in-Some.node ∷ [] =
    popped c.self.inside.free.items c.pop.new.self.items c.in-Some.node (vec_len c.self.inside.free) len some (sym c.in-Some.is ∙ c.pop.ensures.value 0 some) c.pop.ensures.rest in
    let t : IsTaken c.self.inside.places.order c.self.inside.places.size c.self.inside.owners.pairs c.pop.new.self.items c.in-Some.node =
    taken c.self.inside.places.order c.self.inside.places.size c.self.inside.owners.pairs c.self.inside.owners.size c.self.inside.free.items c.self.inside.arrived (vec_capacity c.self.inside.free) c.pop.new.self.items c.in-Some.node c.self.invariant is in
    subst (λ (q : Queued). AllByRecursion (λ (w : Waiting). w.node ≢ c.in-Some.node) q.waiting) c.self.view_is
    (sorted_all (λ w. w.node ≢ c.in-Some.node) c.self.inside.places.order t.apart)
