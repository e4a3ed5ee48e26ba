use Rattle.volume_state.proofs.CallLaws.Promised.{running_is_promised}
use Rattle.std.proofs.Common.{subst}
use Rattle.promises.specs.ServingPromise.Meanings.{cartridges}
use Rattle.promises.specs.ServingPromise.Served.{IsServed, View}
use Rattle.promises.specs.OrderLaws.Kept.{seen}
use Rattle.volume_core.proofs.volume.Volume.keeps.Goals as goal

pub returns : goal.returns
returns g c =
    subst (λ (v : View g.row.D.Denot). IsServed cartridges (seen g.D.Drive v.fixed.first) (seen g.D.Drive v.drive) v)
    c.self.view_is (running_is_promised g.D.Drive _ _ _ c.self.invariant.0.runs)
