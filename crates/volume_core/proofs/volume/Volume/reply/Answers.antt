use Rattle.std.specs.Prelude.{IfNone}
use Rattle.std.proofs.Common.{subst}
use Rattle.event_journal.specs.LetGo.{MayBeGoneAt}
use Rattle.promises.specs.ServingPromise.Served.{View}
use Rattle.volume_core.proofs.volume.Volume.reply.Goals as goal

pub returns-clause-none : goal.returns-clause-none
returns-clause-none g c =
    subst (λ (v : View g.row.D.Denot). IfNone c.reply.result (MayBeGoneAt c.args.place v.replies v.marks)) c.self.view_is c.reply.ensures.none
