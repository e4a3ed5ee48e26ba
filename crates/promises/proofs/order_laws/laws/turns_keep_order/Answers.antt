use Rattle.promises.proofs.OrderLaws.TurnLaw.{turns_keep}
use Rattle.promises.proofs.order_laws.laws.turns_keep_order.Goals as goal

pub returns : goal.returns
returns g c = turns_keep g.D.Drive
