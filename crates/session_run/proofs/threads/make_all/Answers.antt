use denote.Param.Send.{sendable}
use Rattle.std.proofs.Crossing.{crosses}
use Rattle.tape_desk.proofs.Crossing.{desk_sync, pass_send}
use Rattle.std.proofs.Common.{subst}
use Rattle.tape_desk.specs.Passes.{DeskView}
use Rattle.session_run.specs.Ran.{IsDone}
use Rattle.session_run.proofs.threads.make_all.Goals as goal

pub for_each_mut-requires-send-T : goal.for_each_mut-requires-send-T
for_each_mut-requires-send-T g c κs = search (pass_send, crosses, sendable) depth 60 fits 10000

pub for_each_mut-requires-sync-F : goal.for_each_mut-requires-sync-F
for_each_mut-requires-sync-F g c κs = search (desk_sync, crosses, sendable) depth 60 fits 10000

pub returns : goal.returns
returns g c = λ k p lt. let at = (c.for_each_mut.ensures k p lt).1 in
    subst (λ (z : DeskView g.row.D.Denot g.row.K.Denot × DeskView g.row.D.Denot g.row.K.Denot). IsDone z.0 z.1) (λ i. (at.argument_is i, at.left i)) at.call
