use Rattle.std.proofs.Common.{ap, subst, ◌∙◌}
use Rattle.volume_core.specs.VolumeSteps.Seen.{seen_parts}
use Rattle.volume_core.specs.Drains.{EndsAt}
use Rattle.volume_core.specs.Turns.{told}
use Rattle.volume_core.proofs.Given.{ends_at_once}
use Rattle.volume_core.proofs.Made.{drains_end, drains_on, ends_again, ends_first, steps_can, steps_draining}
use Rattle.volume_core.proofs.draining.drain.Goals as goal

pub end_drain-requires : goal.end_drain-requires
end_drain-requires g c =
    ends_first g.D.Drive c.args.parts.now c.requires.runs c.args.who c.requires.drains c.requires.few

pub step-requires-clause-can : goal.step-requires-clause-can
step-requires-clause-can g c =
    steps_can g.D.Drive c.args.parts.now c.requires.runs c.end_drain.new.parts c.in_default.ensures.parts

pub step-requires-clause-ready : goal.step-requires-clause-ready
step-requires-clause-ready g c =
    steps_draining g.D.Drive c.args.parts.now c.requires.runs c.end_drain.new.parts c.in_default.ensures.parts
    c.args.who c.requires.drains c.in_default.ensures.full

pub end_drain-requires-2 : goal.end_drain-requires-2
end_drain-requires-2 g c =
    ends_again g.D.Drive c.args.parts.now c.requires.runs c.end_drain.new.parts c.in_default.ensures.parts
    c.step.new.self c.step.ensures c.args.who c.requires.drains c.requires.few

pub returns-in-Some-clause-drains : goal.returns-in-Some-clause-drains
returns-in-Some-clause-drains g c =
    ends_at_once g.D.Drive c.args.who (told (g.C.Clock.one c.args.clock.now) (g.C.Clock.next c.args.clock.now))
    (told (g.C.Clock.one c.end_drain.new.clock) (g.C.Clock.next c.end_drain.new.clock)) (seen_parts c.args.parts.now)
    (seen_parts c.end_drain.new.parts) c.in-Some.end c.in-Some.ensures.some

pub returns-in-Some-end_drain-clause-drains : goal.returns-in-Some-end_drain-clause-drains
returns-in-Some-end_drain-clause-drains g c =
    let was = told (g.C.Clock.one c.args.clock.now) (g.C.Clock.next c.args.clock.now) in
    let now = told (g.C.Clock.one c.end_drain-2.new.clock) (g.C.Clock.next c.end_drain-2.new.clock) in
    let mid = seen_parts c.step.new.self in
    let new = seen_parts c.end_drain-2.new.parts in
    drains_end g.D.Drive c.args.parts.now c.requires.runs c.end_drain.new.parts c.in_default.ensures.parts
    c.step.new.self c.step.ensures c.args.who c.requires.drains c.in_default.ensures.full was now
    c.end_drain-2.new.parts c.in-Some-end_drain.end
    (subst (λ (k : g.row.C.Denot). EndsAt c.args.who (told (g.C.Clock.one k) (g.C.Clock.next k)) now mid new
    c.in-Some-end_drain.end)
    c.in_default.ensures.clock c.in-Some-end_drain.ensures.some)

pub returns-in-None-clause-drains : goal.returns-in-None-clause-drains
returns-in-None-clause-drains g c =
    let was = told (g.C.Clock.one c.args.clock.now) (g.C.Clock.next c.args.clock.now) in
    let now = told (g.C.Clock.one c.end_drain-2.new.clock) (g.C.Clock.next c.end_drain-2.new.clock) in
    drains_on g.D.Drive c.args.parts.now c.requires.runs c.end_drain.new.parts c.in_default.ensures.parts
    c.step.new.self c.step.ensures c.args.who c.requires.drains c.in_default.ensures.full was now c.end_drain-2.new.parts
    (ap (λ (k : g.row.C.Denot). told (g.C.Clock.one k) (g.C.Clock.next k))
    (c.in-None.ensures.clock ∙ c.in_default.ensures.clock))
    c.in-None.ensures.parts c.in-None.ensures.full
