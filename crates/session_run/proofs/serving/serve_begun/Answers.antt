use Rattle.std.proofs.Common.{ap}
use Rattle.tape_desk.specs.Held.{Constants, HeldView}
use Rattle.session_run.proofs.ServingSteps.{ran_none, ran_whole, was_served}
use Rattle.session_run.proofs.WholeLog.{log_printed, none_printed}
use Rattle.session_run.proofs.serving.serve_begun.Goals as goal

pub close-requires : goal.close-requires
close-requires g c =
    let ran = c.run_sessions-ran.result in
    let opened : HeldView g.row.D.Denot g.row.K.Denot =
    record { volume = c.ran.inside.volume; printer = c.ran.inside.printer } in
    (ran_whole g.D.Drive c.args.shelf ran.shelf opened c.ran.view_is ran.outcome c.run_sessions-ran.ensures c.in-Done.is).1.nothing

pub returns-in-Done-clause-whole : goal.returns-in-Done-clause-whole
returns-in-Done-clause-whole g c = λ start range on.
    let ran = c.run_sessions-ran.result in
    let opened : HeldView g.row.D.Denot g.row.K.Denot =
    record { volume = c.ran.inside.volume; printer = c.ran.inside.printer } in
    let whole = ran_whole g.D.Drive c.args.shelf ran.shelf opened c.ran.view_is ran.outcome c.run_sessions-ran.ensures c.in-Done.is in
    was_served g.D.Drive c.plays_are_runs.ensures start c.args.shelf.volume opened.volume c.close.result
    c.of_close.result c.of_close.ensures.drive c.of_close.ensures.log c.of_close.ensures.end
    (ap (λ (f : Constants g.row.D.Denot g.row.K.Denot). f.volume) whole.0) range on whole.1 c.close.ensures.closes c.close.ensures.own

pub returns-in-Done-clause-printed : goal.returns-in-Done-clause-printed
returns-in-Done-clause-printed g c =
    let ran = c.run_sessions-ran.result in
    let opened : HeldView g.row.D.Denot g.row.K.Denot =
    record { volume = c.ran.inside.volume; printer = c.ran.inside.printer } in
    let whole = ran_whole g.D.Drive c.args.shelf ran.shelf opened c.ran.view_is ran.outcome c.run_sessions-ran.ensures c.in-Done.is in
    log_printed g.K.Sink c.args.shelf opened c.of_close.result.printer c.close.result.log c.of_close.result.log
    whole.0 c.close.ensures.closes.log_is c.ran.invariant.1 c.of_close.ensures.printer c.of_close.ensures.log

pub returns-in-NoMemory-clause-printed : goal.returns-in-NoMemory-clause-printed
returns-in-NoMemory-clause-printed g c =
    let ran = c.run_sessions-ran.result in
    let opened : HeldView g.row.D.Denot g.row.K.Denot =
    record { volume = c.ran.inside.volume; printer = c.ran.inside.printer } in
    none_printed c.args.shelf opened
    (ran_none g.D.Drive c.args.shelf ran.shelf opened c.ran.view_is ran.outcome c.run_sessions-ran.ensures c.in-NoMemory.is)
