use Rattle.std.proofs.Common.{sym, subst, OnErr}
use Rattle.plain_tree.proofs.LinkLemmas.{on_err}
use Rattle.plain_tree.specs.declared.calls.Call.TheVariants as asks
use Rattle.held_volume.specs.Applied.{IsChange, IsUnchanged}
use Rattle.held_volume.specs.Closed.{IsDpChange}
use Rattle.held_volume.specs.Stocks.{IsStock, stocked}
use Rattle.held_volume.proofs.stocks.Stock.admit_dp.Goals as goal

pub returns-clause-syncs : goal.returns-clause-syncs
returns-clause-syncs c early g on st at i told =
    subst (λ s. IsChange early g on st asks.Sync at s (stocked c.self.inside.tree c.admit_due.new.layout c.admit_due.new.frame) c.admit_due.result) c.self.view_is
    (c.admit_due.ensures.applied c.self.inside.tree early g on st at (subst (λ s. IsStock early g on st s) (sym c.self.view_is) i) told)

pub returns-clause-closes : goal.returns-clause-closes
returns-clause-closes c early g on st at i told =
    subst (λ s. IsDpChange early g on st at s (stocked c.self.inside.tree c.admit_due.new.layout c.admit_due.new.frame) c.admit_due.result) c.self.view_is
    (c.admit_due.ensures.closes c.self.inside.tree early g on st at (subst (λ s. IsStock early g on st s) (sym c.self.view_is) i) told)

pub returns-clause-leaves : goal.returns-clause-leaves
returns-clause-leaves c =
    subst (λ s. OnErr c.admit_due.result (IsUnchanged s (stocked c.self.inside.tree c.admit_due.new.layout c.admit_due.new.frame))) c.self.view_is
    (on_err c.admit_due.result (λ all. all c.self.inside.tree) c.admit_due.ensures.err)
