use Rattle.std.proofs.Common.{List, subst, sym, arith}
use Rattle.session_script.specs.declared.scripts.ScriptLine.{ScriptLine}
use Rattle.session_run.specs.Timed.{one_moment}
use Rattle.promises.specs.CrashLaws.May.{MayServe}
use Rattle.ltfs_server.proofs.MakeSteps.{make_unbegun}
use Rattle.ltfs_server.proofs.making.run_make.Goals as goal

pub run_made-requires-clause-allowed : goal.run_made-requires-clause-allowed
run_made-requires-clause-allowed g c κs within =
    subst (λ (s : List ScriptLine). MayServe g.D.Drive s (one_moment c.args.at (g.C.Clock.one c.args.clock)) c.args.drive)
    (sym c.in-Ok.ensures) c.requires.allowed

pub returns-in-Ok : goal.returns-in-Ok
returns-in-Ok g c = c.run_made.ensures c.args.count c.in-Ok.ensures

pub returns-in-Err : goal.returns-in-Err
returns-in-Err g c =
    make_unbegun g.D.Drive _ _ _ _ c.args.drive _ _ c.tell_alone.ensures.drive c.tell_alone.ensures.log
    (omega (arith, c.commands-commands_are_in_range.ensures)) c.tell_alone.ensures.told
