use Rattle.std.proofs.Common.{◌≡◌, true, Some, IfSome, IfNone, subst}
use Rattle.std.specs.List.{AllByRecursion}
use Rattle.tape_types.specs.declared.cartridges.Part.{Part}
use Rattle.head_queue.specs.Waiting.{Waiting}
use Rattle.head_queue.specs.Keys.{comes_first}
use Rattle.head_queue.specs.Entries.{waiting}
use Rattle.head_queue.proofs.FirstLemmas.{part_first, far_least, far_none}
use Rattle.head_queue.proofs.places.Places.first.Goals as goal

pub returns-in-Some-clause-least : goal.returns-in-Some-clause-least
returns-in-Some-clause-least c = part_first c.args.self.now.order c.args.head (waiting c.in-Some.first.0 (Some c.in-Some.first.1)) c.in-Some.ensures.part c.in-Some.ensures.least

pub returns-in-None-clause-least : goal.returns-in-None-clause-least
returns-in-None-clause-least c =
    far_least c.args.self.now.order c.args.head c.first_in-in-None.result c.in-None.ensures.none
    (subst (λ (part : Part). IfSome c.first_in-in-None.result (λ p. p.1.place.part ≡ part)) c.opposite.ensures c.first_in-in-None.ensures.part)
    (subst (λ (part : Part). IfSome c.first_in-in-None.result (λ p. AllByRecursion (λ (v : Waiting). v.place.part ≡ part → comes_first c.args.head.pos (waiting p.0 (Some p.1)) v ≡ true) c.args.self.now.order)) c.opposite.ensures c.first_in-in-None.ensures.least)

pub returns-in-None-clause-none : goal.returns-in-None-clause-none
returns-in-None-clause-none c =
    far_none c.args.self.now.order c.args.head.part c.first_in-in-None.result c.in-None.ensures.none
    (subst (λ (part : Part). IfNone c.first_in-in-None.result (AllByRecursion (λ (v : Waiting). (v.place.part ≡ part) → ⊥) c.args.self.now.order)) c.opposite.ensures c.first_in-in-None.ensures.none)
