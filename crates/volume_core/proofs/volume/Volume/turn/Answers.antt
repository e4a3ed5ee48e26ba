use Rattle.std.proofs.Common.{◌≡◌, sym, subst, arith}
use Rattle.promises.specs.ServingPromise.Marks.{phase, waits}
use Rattle.promises.specs.ServingPromise.Served.{View}
use Rattle.run_laws.proofs.LogLaws.Loading.{turn_takes}
use Rattle.volume_core.specs.VolumeSteps.Seen.{seen_parts}
use Rattle.volume_core.proofs.Acting.{turn_moves}
use Rattle.volume_core.proofs.Serves.{turn_adds, turn_serves_on}
use Rattle.volume_core.proofs.volume.Volume.turn.Goals as goal

pub turn-requires-clause-runs : goal.turn-requires-clause-runs
turn-requires-clause-runs g c = record { fixed = _; next = _; runs = c.self.invariant.0.runs }

pub turn-requires-clause-waits : goal.turn-requires-clause-waits
turn-requires-clause-waits g c = (
  c.requires.0,
  subst (λ (v : View g.row.D.Denot). phase c.requires.0 v.marks ≡ waits c.args.ticket) (sym c.self.view_is) c.requires.1,
)

pub returns-clause-turns : goal.returns-clause-turns
returns-clause-turns g c =
    turn_adds g.D.Drive g.met.D.Drive.only_now _ (g.C.Clock.one c.self.inside.clock) (g.C.Clock.next c.self.inside.clock)
    (seen_parts c.self.inside.parts) c.self.invariant.0 c.turn.ensures.counted c.args.ticket c.turn.result
    (seen_parts c.turn.new.parts) c.turn.ensures.turns c.args.self.now c.self.view_is

pub returns-clause-moves : goal.returns-clause-moves
returns-clause-moves g c =
    turn_moves g.D.Drive _ (g.C.Clock.one c.self.inside.clock) (g.C.Clock.next c.self.inside.clock)
    (seen_parts c.self.inside.parts) c.self.invariant.0 c.args.ticket c.turn.result (seen_parts c.turn.new.parts)
    c.turn.ensures.turns c.args.self.now c.self.view_is c.requires

pub returns-clause-load : goal.returns-clause-load
returns-clause-load g c =
    let s = turn_serves_on g.D.Drive g.met.D.Drive.only_now _ (g.C.Clock.one c.self.inside.clock)
    (g.C.Clock.next c.self.inside.clock) (seen_parts c.self.inside.parts) c.self.invariant.0 c.turn.ensures.counted
    c.args.ticket c.turn.result (seen_parts c.turn.new.parts) c.turn.ensures.turns c.args.self.now c.self.view_is
    c.requires in
    turn_takes _ _ _ _ _ c.requires.0 c.args.ticket c.turn.result s.promised.orderly.trail
    (turn_adds g.D.Drive g.met.D.Drive.only_now _ (g.C.Clock.one c.self.inside.clock)
    (g.C.Clock.next c.self.inside.clock) (seen_parts c.self.inside.parts) c.self.invariant.0 c.turn.ensures.counted
    c.args.ticket c.turn.result (seen_parts c.turn.new.parts) c.turn.ensures.turns c.args.self.now c.self.view_is
    c.requires.0 c.requires.1)

pub returns-clause-served : goal.returns-clause-served
returns-clause-served g c =
    (turn_serves_on g.D.Drive g.met.D.Drive.only_now _ (g.C.Clock.one c.self.inside.clock) (g.C.Clock.next c.self.inside.clock)
    (seen_parts c.self.inside.parts) c.self.invariant.0 c.turn.ensures.counted c.args.ticket c.turn.result
    (seen_parts c.turn.new.parts) c.turn.ensures.turns c.args.self.now c.self.view_is c.requires).promised

pub invariant_of-self : goal.invariant_of-self
invariant_of-self g c =
    let on = turn_serves_on g.D.Drive g.met.D.Drive.only_now _ (g.C.Clock.one c.self.inside.clock)
    (g.C.Clock.next c.self.inside.clock) (seen_parts c.self.inside.parts) c.self.invariant.0 c.turn.ensures.counted c.args.ticket
    c.turn.result (seen_parts c.turn.new.parts) c.turn.ensures.turns c.args.self.now c.self.view_is c.requires in
    (on.serving, c.self.invariant.1, omega (arith, on.calls, c.self.invariant.2), c.self.invariant.3)
