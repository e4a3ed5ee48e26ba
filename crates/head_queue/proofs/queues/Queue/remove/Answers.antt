use Rattle.std.proofs.Common.{◌≡◌, ℕ, ◌≤◌, List, [], ◌∷◌, ◌++◌, vec_capacity, ap, sym, subst, ◌∙◌, rules}
use Rattle.head_queue.specs.Queued.{Queued, by_arrival}
use Rattle.head_queue.specs.Ready.{AreReady}
use Rattle.head_queue.proofs.ArrivalLemmas.{has_sorted, sorted_less}
use Rattle.head_queue.proofs.ReadyLemmas.{given, no_node, nodes_differ, ready_less}
use Rattle.head_queue.proofs.queues.Queue.remove.Goals as goal

pub unreachable-requires : goal.unreachable-requires
unreachable-requires c =
    no_node c.self.inside.places.order c.args.node
    (has_sorted c.self.inside.places.order c.args.node (record { front = c.requires.front; here = c.requires.here; behind = c.requires.behind; parts = ap (λ (q : Queued). q.waiting) c.self.view_is ∙ c.requires.parts; node = c.requires.node }))
    (c.in_default.ensures {u = tt}).none

pub remove-requires-2 : goal.remove-requires-2
remove-requires-2 c =
    (given c.self.inside.places.order c.self.inside.places.size c.self.inside.owners.pairs c.self.inside.owners.size c.self.inside.free.items c.self.inside.arrived (vec_capacity c.self.inside.free) c.args.node c.in-Some.entry c.self.invariant c.in-Some.ensures.some).owner

pub invariant_of-self : goal.invariant_of-self
invariant_of-self c =
    let g = (given c.self.inside.places.order c.self.inside.places.size c.self.inside.owners.pairs c.self.inside.owners.size c.self.inside.free.items c.self.inside.arrived (vec_capacity c.self.inside.free) c.args.node c.in-Some.entry c.self.invariant c.in-Some.ensures.some).has in
    let items : c.push.new.self.items ≡ c.self.inside.free.items ++ c.args.node ∷ [] = search rules in
    let fits : c.self.inside.places.size ≤ vec_capacity c.push.new.self = (let room = c.self.invariant.room in search rules) in
    subst (λ (n : ℕ). AreReady c.remove.new.self.order n c.remove-2.new.self.pairs c.remove-2.new.self.size c.push.new.self.items c.self.inside.arrived (vec_capacity c.push.new.self)) (sym c.remove.ensures.size)
    (subst (λ (n : ℕ). AreReady c.remove.new.self.order c.self.inside.places.size c.remove-2.new.self.pairs n c.push.new.self.items c.self.inside.arrived (vec_capacity c.push.new.self)) (sym c.remove-2.ensures.size)
    (subst (λ (ks : List ℕ). AreReady c.remove.new.self.order c.self.inside.places.size c.remove-2.new.self.pairs c.self.inside.owners.size ks c.self.inside.arrived (vec_capacity c.push.new.self)) (sym items)
    (ready_less c.self.inside.places.order c.remove.new.self.order c.self.inside.places.size c.self.inside.owners.pairs c.remove-2.new.self.pairs c.self.inside.owners.size c.self.inside.free.items c.self.inside.arrived
    (vec_capacity c.self.inside.free) (vec_capacity c.push.new.self) c.args.node c.self.invariant g (c.remove.ensures.order g) c.remove-2.ensures.pairs c.remove-2.ensures.len fits)))

pub returns-clause-waiting : goal.returns-clause-waiting
returns-clause-waiting c h =
    let g = (given c.self.inside.places.order c.self.inside.places.size c.self.inside.owners.pairs c.self.inside.owners.size c.self.inside.free.items c.self.inside.arrived (vec_capacity c.self.inside.free) c.args.node c.in-Some.entry c.self.invariant c.in-Some.ensures.some).has in
    ap by_arrival (c.remove.ensures.order g)
    ∙ sorted_less c.self.inside.places.order c.args.node
    (nodes_differ c.self.inside.places.order c.self.inside.places.size c.self.inside.owners.pairs c.self.inside.owners.size c.self.inside.free.items c.self.inside.arrived (vec_capacity c.self.inside.free) c.self.invariant)
    g (record { front = h.front; here = h.here; behind = h.behind; parts = ap (λ (q : Queued). q.waiting) c.self.view_is ∙ h.parts; node = h.node })
