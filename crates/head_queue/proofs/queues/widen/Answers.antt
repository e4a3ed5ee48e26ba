use Rattle.std.proofs.Common.{◌≡◌, ◌+◌, ◌≤◌, vec_capacity, ◌∙◌, arith}
use Rattle.head_queue.proofs.ReadyLemmas.{ready_wider, ready_is}
use Rattle.head_queue.proofs.queues.widen.Goals as goal

pub loop-preserved : goal.loop-preserved
loop-preserved c =
    let on = c.loop.invariant in
    let size : c.widen_once.new.places.size ≡ c.args.places.now.size + (c.loop.counter + 1) = (let a = c.widen_once.ensures.size in let b = on.1 in omega arith) in
    let spare : c.args.places.now.spare ≤ c.widen_once.new.places.spare + (c.loop.counter + 1) = (let a = c.widen_once.ensures.spare in let b = on.2 in omega arith) in
    let wide : c.widen_once.new.owners.size ≡ c.args.owners.now.size + (c.loop.counter + 1) = (let a = c.widen_once.ensures.wide in let b = on.4 in omega arith) in
    let more : c.args.owners.now.spare ≤ c.widen_once.new.owners.spare + (c.loop.counter + 1) = (let a = c.widen_once.ensures.more in let b = on.5 in omega arith) in
    let len = c.widen_once.ensures.len in
    let cap = c.widen_once.ensures.capacity in
    let fits : c.loop.places.size + 1 ≤ vec_capacity c.widen_once.new.free = (let a = on.1 in let b = on.8 in let d = c.requires.room in let e = c.loop-test.true in omega arith) in (
      c.widen_once.ensures.order ∙ on.0,
      size,
      spare,
      c.widen_once.ensures.pairs ∙ on.3,
      wide,
      more,
      c.widen_once.ensures.room ∙ on.6,
      (let b = on.7 in omega arith),
      (let b = on.8 in omega arith),
      (λ arrived r. ready_is c.loop.places.order (c.loop.places.size + 1) c.loop.owners.pairs (c.loop.owners.size + 1) _ arrived (vec_capacity c.widen_once.new.free)
          c.widen_once.new.places.order c.widen_once.new.places.size c.widen_once.new.owners.pairs c.widen_once.new.owners.size c.widen_once.new.free.items (vec_capacity c.widen_once.new.free)
          c.widen_once.ensures.order c.widen_once.ensures.size c.widen_once.ensures.pairs c.widen_once.ensures.wide c.widen_once.ensures.free fits
          (ready_wider c.loop.places.order c.loop.places.size c.loop.owners.pairs c.loop.owners.size c.loop.free.items arrived (vec_capacity c.loop.free) (vec_capacity c.widen_once.new.free) (on.9 arrived r) fits)),
    )
