use Rattle.promises.proofs.OrderLaws.SubmitLaw.{submissions_keep}
use Rattle.promises.proofs.order_laws.laws.submissions_keep_order.Goals as goal

pub returns : goal.returns
returns g c = submissions_keep g.D.Drive
