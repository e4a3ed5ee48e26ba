use Rattle.std.proofs.Common.{sym, subst}
use Rattle.held_volume.proofs.stocks.Stock.on.Goals as goal
use Rattle.held_volume.specs.Stocks.{IsStock}
use Rattle.held_volume.proofs.Stands.{turned_on}

pub returns-clause-stands : goal.returns-clause-stands
returns-clause-stands c tape g on st i =
    turned_on c.self.inside.tree c.self.inside.layout c.place_on_ip.new.self c.self.inside.frame tape g on st (subst (λ s. IsStock tape g on st s) (sym c.self.view_is) i) c.place_on_ip.ensures
