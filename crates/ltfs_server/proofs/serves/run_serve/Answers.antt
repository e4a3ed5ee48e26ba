use Rattle.std.proofs.Common.{◌∙◌, ◌⊎◌, arith, codes, refl}
use Rattle.commands.specs.BasicCommands.Outcomes.{IsTold}
use Rattle.commands.specs.BasicCommands.Runs.{written}
use Rattle.commands.specs.BasicCommands.Scripts.{unread_text}
use Rattle.commands.specs.BasicCommands.Statuses.{status_number}
use Rattle.ltfs_server.proofs.HandedBack.{handed}
use Rattle.ltfs_server.proofs.ServeSteps.{serve_unread}
use Rattle.ltfs_server.proofs.serves.run_serve.Goals as goal

pub serve_calls-requires-clause-allowed : goal.serve_calls-requires-clause-allowed
serve_calls-requires-clause-allowed g c κs within = c.requires.allowed c.in-Ok.calls c.in-Ok.ensures.read.spelled

pub returns-in-Ok : goal.returns-in-Ok
returns-in-Ok g c = c.serve_calls.ensures _ c.in-Ok.ensures.read

pub returns-in-Err : goal.returns-in-Err
returns-in-Err g c =
    let text = unread_text c.in-Err.why in
    let told = handed g.K.Sink
    (λ sink status. IsTold (status_number c.unread_status.result) text sink status ⊎ IsTold 7 (codes "memory\n") sink status)
    c.args.out c.args.out c.tell_made-told.new.out c.with_sink.result.out c.tell_made-told.result.status c.with_sink.result.status
    refl c.with_sink.ensures.out c.with_sink.ensures.status (c.tell_made-told.ensures.told text c.unread_text-text.ensures) in
    serve_unread g.D.Drive _ _ (written g.K.Sink c.args.out c.with_sink.result.out) c.with_sink.result.status c.args.drive
    c.with_sink.result.drive c.with_sink.result.log c.in-Err.why (c.with_sink.ensures.drive ∙ c.tell_made-told.ensures.drive)
    (c.with_sink.ensures.log ∙ c.tell_made-told.ensures.log) (omega (arith, c.commands-commands_are_in_range.ensures))
    c.in-Err.ensures.unread _ c.unread_status.ensures told
