use Rattle.promises.proofs.OrderLaws.PhaseLaw.{phases_plain}
use Rattle.promises.proofs.order_laws.laws.phases_are_plain.Goals as goal

pub returns : goal.returns
returns g c = phases_plain g.D.Drive
