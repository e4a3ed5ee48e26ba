use Rattle.std.proofs.Common.{◌≡◌, ◌+◌, false, Option, Some, IfSome, sym, subst, ◌∙◌}
use Rattle.tape_types.specs.declared.cartridges.Place.{Place}
use Rattle.head_queue.specs.EventLaws.Waiting.{key}
use Rattle.head_queue.specs.Entries.{waiting}
use Rattle.head_queue.specs.Keys.{is_upto}
use Rattle.head_queue.specs.Picks.{IsPicked, IsOpPicked}
use Rattle.head_queue.specs.Queued.{Queued}
use Rattle.head_queue.proofs.PickLemmas.{op_first, request_picked}
use Rattle.head_queue.proofs.queues.Queue.pick.Goals as goal
use Rattle.head_queue.proofs.queues.Queue.pick.Goals.{in_default-via-in-Some-op+else-is_first, in_default-via-in_default}

pub returns-in-Some-op : goal.returns-in-Some-op
returns-in-Some-op c =
    subst (λ (q : Queued). IsOpPicked c.args.head c.args.op q.waiting) c.self.view_is
    (op_first c.args.head c.args.op c.in-Some-op.at c.self.inside.places.order (waiting c.in-Some.node (Some c.in-Some.entry)) c.in-Some-op.is c.in-Some.ensures.least
    (sym c.is_first.ensures ∙ c.if-is_first.true))

pub returns-in_default : goal.returns-in_default
returns-in_default c =
    let far : IfSome c.args.op (λ (at : Place). is_upto (key c.args.head at 0) (key c.args.head c.in-Some.entry.place (c.in-Some.entry.arrival + 1)) ≡ false) = elim c.in_default.branch [
      | in_default-via-in-Some-op+else-is_first w ↦ subst (λ (o : Option Place). IfSome o (λ (at : Place). is_upto (key c.args.head at 0) (key c.args.head c.in-Some.entry.place (c.in-Some.entry.arrival + 1)) ≡ false)) (sym w.in-Some-op.is) (sym w.is_first.ensures ∙ w.if-is_first.false)
      | in_default-via-in_default w ↦ subst (λ (o : Option Place). IfSome o (λ (at : Place). is_upto (key c.args.head at 0) (key c.args.head c.in-Some.entry.place (c.in-Some.entry.arrival + 1)) ≡ false)) (sym w.in_default.is) tt
    ] in
    subst (λ (q : Queued). IsPicked c.args.head c.args.op q.waiting c.in-Some.node c.in-Some.entry.owner c.in-Some.entry.place) c.self.view_is
    (request_picked c.args.head c.args.op c.self.inside.places.order (waiting c.in-Some.node (Some c.in-Some.entry)) c.in-Some.ensures.some c.in-Some.ensures.least far)
