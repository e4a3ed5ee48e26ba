use Rattle.std.proofs.Common.{◌++◌, ◌∙◌, ◌⊎◌, codes, refl}
use Rattle.session_script.specs.LogText.{log_text}
use Rattle.commands.specs.BasicCommands.Outcomes.{IsTold}
use Rattle.commands.specs.BasicCommands.Runs.{written}
use Rattle.session_run.specs.Serving.{end_line}
use Rattle.commands.specs.BasicCommands.Statuses.{status_number}
use Rattle.ltfs_server.specs.Serving.{end_status}
use Rattle.ltfs_server.proofs.HandedBack.{handed}
use Rattle.ltfs_server.proofs.PrintedEnds.{printed_told, unprinted_sink}
use Rattle.ltfs_server.proofs.ServeSteps.{logged_told, unlogged_told}
use Rattle.ltfs_server.proofs.serves.tell_served.Goals as goal

pub returns-in-Some : goal.returns-in-Some
returns-in-Some g c = λ script moment start source out whole printed is.
    let served = c.args.served in
    let log = c.in-Some.log in
    let text = log_text log ++ end_line served.end in
    let told = printed_told g.K.Sink out served.printer c.print_end.new.printer served.log log (end_line served.end)
    (end_status served.end) c.number.result printed c.in-Some.is c.print_end.ensures.over c.print_end.ensures.none
    c.print_end.ensures.text (c.number.ensures ∙ c.printed_status.ensures) in
    logged_told g.D.Drive moment source (written g.K.Sink out c.into_sink.result) c.number.result script start served.drive
    served _ whole is refl log c.in-Some.is refl
    (handed g.K.Sink (λ sink status. IsTold (end_status served.end) text sink status) out out
    c.print_end.new.printer.out c.into_sink.result c.number.result c.number.result refl c.into_sink.ensures refl told)

pub returns-in-None : goal.returns-in-None
returns-in-None g c = λ script moment start source out whole printed is.
    let served = c.args.served in
    let text = end_line served.end in
    let told = handed g.K.Sink
    (λ sink status. IsTold (status_number c.end_status.result) text sink status ⊎ IsTold 7 (codes "memory\n") sink status)
    c.into_sink-out.result out c.tell_made-told.new.out c.with_sink.result.out c.tell_made-told.result.status c.with_sink.result.status
    (c.into_sink-out.ensures ∙ unprinted_sink g.K.Sink out served.printer served.log c.in-None.is printed)
    c.with_sink.ensures.out c.with_sink.ensures.status (c.tell_made-told.ensures.told text c.end_line-text.ensures) in
    unlogged_told g.D.Drive moment source (written g.K.Sink out c.with_sink.result.out) c.with_sink.result.status script
    start c.with_sink.result.drive served c.with_sink.result.log whole is
    (c.with_sink.ensures.drive ∙ c.tell_made-told.ensures.drive) c.in-None.is
    (c.with_sink.ensures.log ∙ c.tell_made-told.ensures.log) _ c.end_status.ensures told
