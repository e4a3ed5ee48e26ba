use Rattle.volume_core.proofs.Submissions.{asked_once}
use Rattle.volume_core.proofs.submitting.ask.Goals as goal

pub returns : goal.returns
returns g c =
    asked_once g.C.Clock.one g.C.Clock.next c.args.clock.now c.now.new.self c.now.result c.now.ensures.told
    c.now.ensures.single
