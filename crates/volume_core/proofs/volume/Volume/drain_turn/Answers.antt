use Rattle.std.proofs.Common.{rules, ◌≡◌, ◌<◌, ◌^◌, sym, subst, arith}
use Rattle.promises.specs.ServingPromise.Marks.{draining, phase}
use Rattle.promises.specs.ServingPromise.Served.{View}
use Rattle.run_laws.proofs.LogLaws.Loading.{drain_takes}
use Rattle.volume_core.specs.VolumeSteps.Seen.{seen_parts}
use Rattle.volume_core.proofs.Acting.{drain_moves}
use Rattle.volume_core.proofs.Serves.{drain_adds, drain_serves_on}
use Rattle.volume_core.proofs.volume.Volume.drain_turn.Goals as goal

pub drain-requires-clause-runs : goal.drain-requires-clause-runs
drain-requires-clause-runs g c = record { fixed = _; next = _; runs = c.self.invariant.0.runs }

pub drain-requires-clause-drains : goal.drain-requires-clause-drains
drain-requires-clause-drains g c =
    subst (λ (v : View g.row.D.Denot). phase c.args.who v.marks ≡ draining) (sym c.self.view_is) c.requires

pub drain-requires-clause-few : goal.drain-requires-clause-few
drain-requires-clause-few g c =
    let drains = subst (λ (v : View g.row.D.Denot). phase c.args.who v.marks ≡ draining) (sym c.self.view_is) c.requires in
    let small : c.count-calls.result < 2 ^ 32 = search rules in
    omega (arith, c.self.invariant.0.runs.kept.order.more c.args.who drains, c.count-calls.ensures, small)

pub returns-clause-drains : goal.returns-clause-drains
returns-clause-drains g c =
    drain_adds g.D.Drive g.met.D.Drive.only_now _ (g.C.Clock.one c.self.inside.clock) (g.C.Clock.next c.self.inside.clock)
    (seen_parts c.self.inside.parts) c.self.invariant.0 c.drain.ensures.counted c.args.who (g.C.Clock.one c.drain.new.clock)
    (g.C.Clock.next c.drain.new.clock) c.drain.result (seen_parts c.drain.new.parts) c.drain.ensures.drains c.args.self.now
    c.self.view_is c.requires

pub returns-clause-moves : goal.returns-clause-moves
returns-clause-moves g c =
    drain_moves g.D.Drive _ (g.C.Clock.one c.self.inside.clock) (g.C.Clock.next c.self.inside.clock)
    (seen_parts c.self.inside.parts) c.self.invariant.0 c.args.who (g.C.Clock.one c.drain.new.clock)
    (g.C.Clock.next c.drain.new.clock) c.drain.result (seen_parts c.drain.new.parts) c.drain.ensures.drains
    c.args.self.now c.self.view_is

pub returns-clause-load : goal.returns-clause-load
returns-clause-load g c =
    let s = drain_serves_on g.D.Drive g.met.D.Drive.only_now _ (g.C.Clock.one c.self.inside.clock)
    (g.C.Clock.next c.self.inside.clock) (seen_parts c.self.inside.parts) c.self.invariant.0 c.drain.ensures.counted
    c.args.who (g.C.Clock.one c.drain.new.clock) (g.C.Clock.next c.drain.new.clock) c.drain.result
    (seen_parts c.drain.new.parts) c.drain.ensures.drains c.args.self.now c.self.view_is c.requires in
    drain_takes _ _ _ _ _ c.args.who c.drain.result s.promised.orderly.trail
    (drain_adds g.D.Drive g.met.D.Drive.only_now _ (g.C.Clock.one c.self.inside.clock)
    (g.C.Clock.next c.self.inside.clock) (seen_parts c.self.inside.parts) c.self.invariant.0 c.drain.ensures.counted
    c.args.who (g.C.Clock.one c.drain.new.clock) (g.C.Clock.next c.drain.new.clock) c.drain.result
    (seen_parts c.drain.new.parts) c.drain.ensures.drains c.args.self.now c.self.view_is c.requires)

pub returns-clause-served : goal.returns-clause-served
returns-clause-served g c =
    (drain_serves_on g.D.Drive g.met.D.Drive.only_now _ (g.C.Clock.one c.self.inside.clock) (g.C.Clock.next c.self.inside.clock)
    (seen_parts c.self.inside.parts) c.self.invariant.0 c.drain.ensures.counted c.args.who (g.C.Clock.one c.drain.new.clock)
    (g.C.Clock.next c.drain.new.clock) c.drain.result (seen_parts c.drain.new.parts) c.drain.ensures.drains c.args.self.now
    c.self.view_is c.requires).promised

pub invariant_of-self : goal.invariant_of-self
invariant_of-self g c =
    let on = drain_serves_on g.D.Drive g.met.D.Drive.only_now _ (g.C.Clock.one c.self.inside.clock)
    (g.C.Clock.next c.self.inside.clock) (seen_parts c.self.inside.parts) c.self.invariant.0 c.drain.ensures.counted c.args.who
    (g.C.Clock.one c.drain.new.clock) (g.C.Clock.next c.drain.new.clock) c.drain.result (seen_parts c.drain.new.parts)
    c.drain.ensures.drains c.args.self.now c.self.view_is c.requires in
    (on.serving, c.self.invariant.1, omega (arith, on.calls, c.self.invariant.2), c.self.invariant.3)
