use Rattle.std.proofs.Common.{◌≡◌, ◌+◌, ◌<◌, ◌≤◌, not, nat_eq, List, ◌++◌, length, filter, count_by, ap, sym, ◌∙◌, arith}
use Rattle.head_queue.specs.Waiting.{Waiting}
use Rattle.head_queue.proofs.ReadyLemmas.{one_shorter, filter_less, filter_same, count_less, count_same}
use Rattle.head_queue.proofs.queues.Queue.remove_owner.Goals as goal

pub loop-node-smaller : goal.loop-node-smaller
loop-node-smaller g c =
    let h = c.in-Some.ensures.some.has in
    let shorter : length c.remove.new.self.waiting + 1 ≡ length c.loop-node.self.waiting = one_shorter c.loop-node.self.waiting c.remove.new.self.waiting c.in-Some.node h (c.remove.ensures.waiting h) in
    let less : length c.remove.new.self.waiting < length c.loop-node.self.waiting = omega arith in
    less

pub loop-node-preserved : goal.loop-node-preserved
loop-node-preserved g c =
    let its = c.in-Some.ensures.some in
    let h = its.has in
    let on = c.loop-node.invariant in
    let now : c.remove.new.self.waiting ≡ h.front ++ h.behind = c.remove.ensures.waiting h in
    let others : filter (λ (w : Waiting). not (nat_eq w.owner c.args.owner)) c.remove.new.self.waiting ≡ filter (λ (w : Waiting). not (nat_eq w.owner c.args.owner)) c.args.self.now.waiting =
    ap (filter (λ (w : Waiting). not (nat_eq w.owner c.args.owner))) now
    ∙ filter_less c.args.owner h.front h.behind h.here its.owner
    ∙ ap (filter (λ (w : Waiting). not (nat_eq w.owner c.args.owner))) (sym h.parts)
    ∙ on.0 in
    let left : count_by (λ (w : Waiting). nat_eq w.owner c.args.owner) c.loop-node.self.waiting ≡ count_by (λ (w : Waiting). nat_eq w.owner c.args.owner) c.remove.new.self.waiting + 1 =
    ap (count_by (λ (w : Waiting). nat_eq w.owner c.args.owner)) h.parts
    ∙ count_less c.args.owner h.front h.behind h.here its.owner
    ∙ ap (λ (ws : List Waiting). count_by (λ (w : Waiting). nat_eq w.owner c.args.owner) ws + 1) (sym now) in
    let had : c.loop-node.steps + count_by (λ (w : Waiting). nat_eq w.owner c.args.owner) c.loop-node.self.waiting ≡ c.args.steps.now + count_by (λ (w : Waiting). nat_eq w.owner c.args.owner) c.args.self.now.waiting = on.1 in
    let step : c.take.new.self ≡ c.loop-node.steps + 1 = c.take.ensures in
    let steps : c.take.new.self + count_by (λ (w : Waiting). nat_eq w.owner c.args.owner) c.remove.new.self.waiting ≡ c.args.steps.now + count_by (λ (w : Waiting). nat_eq w.owner c.args.owner) c.args.self.now.waiting = omega (arith, left, had, step) in
    let spare : c.args.self.now.spare ≤ c.remove.new.self.spare = (let a : c.args.self.now.spare ≤ c.loop-node.self.spare = on.3 in let b = c.remove.ensures.spare in omega arith) in
    (others, steps, c.remove.ensures.arrived ∙ on.2, spare)

pub returns-clause-waiting : goal.returns-clause-waiting
returns-clause-waiting g c = sym (filter_same c.args.owner c.loop-node.self.waiting (c.in_default.ensures {u = tt}).none) ∙ c.loop-node.invariant.0

pub returns-clause-steps : goal.returns-clause-steps
returns-clause-steps g c =
    let none : count_by (λ (w : Waiting). nat_eq w.owner c.args.owner) c.loop-node.self.waiting ≡ 0 = count_same c.args.owner c.loop-node.self.waiting (c.in_default.ensures {u = tt}).none in
    let had : c.loop-node.steps + count_by (λ (w : Waiting). nat_eq w.owner c.args.owner) c.loop-node.self.waiting ≡ c.args.steps.now + count_by (λ (w : Waiting). nat_eq w.owner c.args.owner) c.args.self.now.waiting = c.loop-node.invariant.1 in
    omega (arith, none, had)
