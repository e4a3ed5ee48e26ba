use Rattle.std.proofs.Common.{arith, codes, refl, subst, sym}
use Rattle.line_printer.specs.Printing.{PrinterView}
use Rattle.commands.specs.BasicCommands.Outcomes.{IsTold}
use Rattle.commands.specs.BasicCommands.Runs.{written}
use Rattle.session_run.specs.Printed.{IsLogPrinted}
use Rattle.session_run.specs.Timed.{TimedView, one_moment}
use Rattle.promises.specs.CrashLaws.May.{MayServe}
use Rattle.ltfs_server.proofs.HandedBack.{handed}
use Rattle.ltfs_server.proofs.ServeSteps.{serve_refused, timed_does, was_mounted}
use Rattle.ltfs_server.proofs.serves.serve_calls.Goals as goal

pub serve_volume-served-requires-clause-allowed : goal.serve_volume-served-requires-clause-allowed
serve_volume-served-requires-clause-allowed g c κs within =
    subst (λ (k : TimedView g.row.C.Denot). MayServe g.D.Drive c.args.calls (one_moment k.at (g.C.Clock.one k.clock)) c.args.drive)
    (sym c.new-clock.ensures) c.requires.allowed

pub serve_volume-served-requires-clause-honest : goal.serve_volume-served-requires-clause-honest
serve_volume-served-requires-clause-honest g c κs within = c.requires.honest

pub tell_served-requires : goal.tell_served-requires
tell_served-requires g c = record {
  mounted = was_mounted g.D.Drive _ c.args.calls c.args.drive c.serve_volume-served.result c.serve_volume-served.ensures.whole;
}

pub returns-in-Ok : goal.returns-in-Ok
returns-in-Ok g c = λ source is.
    let clock = c.new-clock.result in
    timed_does g.C.Clock.one c.args.at c.args.clock clock c.new-clock.ensures g.D.Drive source
    c.args.drive c.tell_served.result.drive (written g.K.Sink c.args.out c.tell_served.result.out) c.tell_served.result.status
    c.tell_served.result.log
    (c.tell_served.ensures c.args.calls (one_moment clock.at (g.C.Clock.one clock.clock)) c.args.drive source c.args.out
    c.serve_volume-served.ensures.whole
    (subst
    (λ (p : PrinterView g.row.K.Denot).
    IsLogPrinted g.K.Sink p c.serve_volume-served.result.printer c.serve_volume-served.result.log)
    c.in-Ok.ensures.ok c.serve_volume-served.ensures.printed) is)

pub returns-in-Err : goal.returns-in-Err
returns-in-Err g c = λ source is.
    serve_refused g.D.Drive _ source (written g.K.Sink c.args.out c.tell_alone.result.out) c.tell_alone.result.status c.args.drive
    c.tell_alone.result.drive c.tell_alone.result.log c.tell_alone.ensures.drive c.tell_alone.ensures.log
    (omega (arith, c.commands-commands_are_in_range.ensures))
    (handed g.K.Sink (λ sink status. IsTold 7 (codes "memory\n") sink status) c.in-Err.out c.args.out c.tell_alone.result.out
    c.tell_alone.result.out c.tell_alone.result.status c.tell_alone.result.status c.in-Err.ensures.err refl refl
    c.tell_alone.ensures.told)
