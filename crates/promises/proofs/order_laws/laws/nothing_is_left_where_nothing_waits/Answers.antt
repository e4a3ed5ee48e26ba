use Rattle.promises.proofs.OrderLaws.PhaseLaw.{nothing_waits}
use Rattle.promises.proofs.order_laws.laws.nothing_is_left_where_nothing_waits.Goals as goal

pub returns : goal.returns
returns g c = nothing_waits g.D.Drive
