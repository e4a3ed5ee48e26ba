use Rattle.std.proofs.Common.{◌≢◌, vec_capacity, IfSome, IfNone, subst}
use Rattle.std.specs.List.{AllByRecursion}
use Rattle.head_queue.specs.Waiting.{Waiting}
use Rattle.head_queue.specs.Orders.{HasOwner}
use Rattle.head_queue.specs.Queued.{Queued}
use Rattle.head_queue.proofs.ReadyLemmas.{newest_has, newest_lacks, nodes_differ}
use Rattle.head_queue.proofs.queues.Queue.newest.Goals as goal

pub returns-clause-some : goal.returns-clause-some
returns-clause-some c =
    subst (λ (q : Queued). IfSome c.newest.result (HasOwner q.waiting c.args.owner)) c.self.view_is
    (newest_has c.self.inside.places.order c.self.inside.owners.pairs c.args.owner c.newest.result c.self.invariant.agree c.newest.ensures.some)

pub returns-clause-none : goal.returns-clause-none
returns-clause-none c =
    subst (λ (q : Queued). IfNone c.newest.result (AllByRecursion (λ (w : Waiting). w.owner ≢ c.args.owner) q.waiting)) c.self.view_is
    (newest_lacks c.self.inside.places.order c.self.inside.owners.pairs c.args.owner c.newest.result
    (nodes_differ c.self.inside.places.order c.self.inside.places.size c.self.inside.owners.pairs c.self.inside.owners.size c.self.inside.free.items c.self.inside.arrived (vec_capacity c.self.inside.free) c.self.invariant)
    c.self.invariant.agree c.newest.ensures.none)
