use Rattle.std.proofs.Common.{◌≡◌, ◌+◌, ◌≤◌, not, nat_eq, length, filter, count_by}
use Rattle.head_queue.specs.Waiting.{Waiting}
use Rattle.head_queue.proofs.queues.Queue.remove_owner.Given as goal

abbrev pub invariant-loop-node : goal.invariant-loop-node
invariant-loop-node g l = (filter (λ (w : Waiting). not (nat_eq w.owner l.owner)) l.self.waiting ≡ filter (λ (w : Waiting). not (nat_eq w.owner l.owner)) l.fn.self.waiting)
    × (l.steps + count_by (λ (w : Waiting). nat_eq w.owner l.owner) l.self.waiting ≡ l.fn.steps + count_by (λ (w : Waiting). nat_eq w.owner l.owner) l.fn.self.waiting)
    × (l.self.arrived ≡ l.fn.self.arrived)
    × (l.fn.self.spare ≤ l.self.spare)

abbrev pub decreases-loop-node : goal.decreases-loop-node
decreases-loop-node g l = length l.self.waiting
