use Rattle.promises.proofs.OrderLaws.BeginLaw.{volumes_begin}
use Rattle.promises.proofs.order_laws.laws.volumes_begin_in_order.Goals as goal

pub returns : goal.returns
returns g c = volumes_begin g.D.Drive
