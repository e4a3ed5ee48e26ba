use Rattle.promises.proofs.OrderLaws.TurnLaw.{drain_turns_keep}
use Rattle.promises.proofs.order_laws.laws.drain_turns_keep_order.Goals as goal

pub returns : goal.returns
returns g c = drain_turns_keep g.D.Drive
