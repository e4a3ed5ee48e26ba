use Rattle.std.proofs.Common.{sym, subst}
use Rattle.held_volume.proofs.stocks.Stock.done_op.Goals as goal
use Rattle.held_volume.specs.Stocks.{IsStock}
use Rattle.held_volume.proofs.Stands.{op_done}

pub returns-clause-stands : goal.returns-clause-stands
returns-clause-stands c tape g on st i =
    op_done c.self.inside.tree c.self.inside.layout c.done_op.new.self c.self.inside.frame tape g on st (subst (λ s. IsStock tape g on st s) (sym c.self.view_is) i) c.done_op.ensures
