use Rattle.std.proofs.Common.{◌∙◌, ◌⊎◌, codes}
use Rattle.commands.specs.BasicCommands.Outcomes.{IsTold}
use Rattle.commands.specs.BasicCommands.Runs.{written}
use Rattle.commands.specs.BasicCommands.Statuses.{status_number}
use Rattle.ltfs_server.specs.Making.{closed_line}
use Rattle.ltfs_server.proofs.HandedBack.{handed}
use Rattle.ltfs_server.proofs.MakeSteps.{make_told}
use Rattle.ltfs_server.proofs.PrintedEnds.{quiet_sink}
use Rattle.ltfs_server.proofs.making.tell_served.Goals as goal

pub returns : goal.returns
returns g c = λ count moment start out whole printed.
    let served = c.args.served in
    let text = closed_line served.log served.end in
    let told = handed g.K.Sink
    (λ sink status. IsTold (status_number c.end_status.result) text sink status ⊎ IsTold 7 (codes "memory\n") sink status)
    c.into_sink-out.result out c.tell_made-told.new.out c.with_sink.result.out c.tell_made-told.result.status c.with_sink.result.status
    (c.into_sink-out.ensures ∙ quiet_sink g.K.Sink out served.printer served.log printed) c.with_sink.ensures.out
    c.with_sink.ensures.status (c.tell_made-told.ensures.told text c.closed_text-text.ensures) in
    make_told g.D.Drive moment count (written g.K.Sink out c.with_sink.result.out) c.with_sink.result.status start
    c.with_sink.result.drive served c.with_sink.result.log whole (c.with_sink.ensures.drive ∙ c.tell_made-told.ensures.drive)
    (c.with_sink.ensures.log ∙ c.tell_made-told.ensures.log) _ c.end_status.ensures told
