use Rattle.std.proofs.Common.{◌≡◌, ◌+◌, ◌-◌, ◌^◌, ◌<◌, ◌≤◌, length, vec_len, vec_capacity, sym, subst, arith, rules}
use Rattle.head_queue.specs.Queued.{Queued, by_arrival}
use Rattle.head_queue.proofs.ReadyLemmas.{ready_is, ready_count}
use Rattle.head_queue.proofs.queues.Queue.reserve.Goals as goal

pub widen-requires-clause-fits : goal.widen-requires-clause-fits
widen-requires-clause-fits c some =
    let count : length c.self.inside.free.items + length (by_arrival c.self.inside.places.order) ≡ c.self.inside.places.size =
    ready_count c.self.inside.places.order c.self.inside.places.size c.self.inside.owners.pairs c.self.inside.owners.size c.self.inside.free.items c.self.inside.arrived (vec_capacity c.self.inside.free) c.self.invariant in
    let fits : length (by_arrival c.self.inside.places.order) + c.args.n < 2 ^ 32 = subst (λ (q : Queued). length q.waiting + c.args.n < 2 ^ 32) (sym c.self.view_is) c.requires in
    let len : vec_len c.self.inside.free ≡ length c.self.inside.free.items = search rules in
    let size : c.reserve.new.self.size ≡ c.self.inside.places.size = c.reserve.ensures.size in
    let more : c.saturating_sub-more.result ≡ c.args.n - vec_len c.self.inside.free = search rules in
    omega arith

pub invariant_of-self-2 : goal.invariant_of-self-2
invariant_of-self-2 c =
    let items : c.reserve-3.new.self.items ≡ c.self.inside.free.items = c.reserve-3.ensures.items in
    let room : c.self.inside.places.size ≤ vec_capacity c.reserve-3.new.self = (let had = c.self.invariant.room in search rules) in
    c.widen.ensures.ready c.self.inside.arrived
    (ready_is c.self.inside.places.order c.self.inside.places.size c.self.inside.owners.pairs c.self.inside.owners.size c.self.inside.free.items c.self.inside.arrived (vec_capacity c.self.inside.free)
    c.reserve.new.self.order c.reserve.new.self.size c.reserve-2.new.self.pairs c.reserve-2.new.self.size c.reserve-3.new.self.items (vec_capacity c.reserve-3.new.self)
    c.reserve.ensures.order c.reserve.ensures.size c.reserve-2.ensures.pairs c.reserve-2.ensures.size items room c.self.invariant)
