use Rattle.std.proofs.Common.{sym, subst}
use Rattle.tape_desk.specs.Held.{HeldView}
use Rattle.session_run.specs.Printed.{IsLogPrinted}
use Rattle.session_run.specs.Serving.{IsBegun, IsLookedAt, Whole}
use Rattle.session_run.proofs.ServingSteps.{begun_on, whole_on}
use Rattle.session_run.proofs.serving.serve_mounted.Goals as goal

pub returns-in-Ok-clause-whole : goal.returns-in-Ok-clause-whole
returns-in-Ok-clause-whole g c = λ start range looked since_is.
    let served = subst
    (λ (h : HeldView g.row.D.Denot g.row.K.Denot). IsBegun g.D.Drive start h.volume.fixed
    → Whole g.D.Drive start h.volume.fixed.moment h.volume.fixed.script c.serve_begun.result)
    c.new.ensures (c.serve_begun.ensures.whole start range) in
    whole_on g.D.Drive start c.args.drive c.args.mounted _ _ _ _ c.in-Ok.volume c.in-Ok.ensures.ok c.serve_begun.result
    (served (begun_on g.D.Drive start c.args.drive c.args.mounted _ _ _ _ c.in-Ok.volume c.in-Ok.ensures.ok c.requires.mounts looked since_is))

pub returns-in-Ok-clause-printed : goal.returns-in-Ok-clause-printed
returns-in-Ok-clause-printed g c =
    let served = c.serve_begun.result in
    subst (λ (h : HeldView g.row.D.Denot g.row.K.Denot). IsLogPrinted g.K.Sink h.printer served.printer served.log)
    c.new.ensures c.serve_begun.ensures.printed

pub returns-in-Err-clause-whole : goal.returns-in-Err-clause-whole
returns-in-Err-clause-whole g c = λ start range looked since_is. (subst (λ d. IsLookedAt g.D.Drive start d) (sym c.in-Err.ensures.err.0) looked, tt)
