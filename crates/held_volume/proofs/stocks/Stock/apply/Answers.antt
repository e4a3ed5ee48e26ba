use Rattle.std.proofs.Common.{sym, subst}
use Rattle.plain_tree.specs.Calls.{call_of_change}
use Rattle.held_volume.specs.Applied.{IsApplied, LeavesAll}
use Rattle.held_volume.specs.Stocks.{IsStock, stocked}
use Rattle.held_volume.proofs.stocks.Stock.apply.Goals as goal

pub returns-clause-applied : goal.returns-clause-applied
returns-clause-applied c early g on st i =
    subst (λ s. IsApplied early g on st (call_of_change c.args.change) c.args.at s (stocked c.apply.new.tree c.apply.new.layout c.apply.new.frame) c.apply.result) c.self.view_is
    (c.apply.ensures.applied early g on st (subst (λ s. IsStock early g on st s) (sym c.self.view_is) i))

pub returns-clause-leaves : goal.returns-clause-leaves
returns-clause-leaves c =
    subst (λ s. LeavesAll s (stocked c.apply.new.tree c.apply.new.layout c.apply.new.frame) c.apply.result) c.self.view_is c.apply.ensures.leaves
