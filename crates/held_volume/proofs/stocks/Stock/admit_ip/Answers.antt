use Rattle.std.proofs.Common.{Vec, ℕ, Global, sym, subst, OnErr}
use Rattle.std.specs.Option.{option_map}
use Rattle.plain_tree.proofs.LinkLemmas.{on_err}
use Rattle.held_volume.specs.Applied.{IsUnchanged}
use Rattle.held_volume.specs.Closed.{IsIpEnd}
use Rattle.held_volume.specs.Stocks.{IsStock, stocked}
use Rattle.held_volume.proofs.stocks.Stock.admit_ip.Goals as goal

pub returns-clause-applied : goal.returns-clause-applied
returns-clause-applied c early g on st at i told =
    subst (λ s. IsIpEnd (option_map (λ (doc : Vec ℕ Global). doc.items) c.args.due.now) g st at s (stocked c.self.inside.tree c.admit_on_ip.new.layout c.admit_on_ip.new.frame) c.admit_on_ip.result) c.self.view_is
    (c.admit_on_ip.ensures.applied c.self.inside.tree early g on st at (subst (λ s. IsStock early g on st s) (sym c.self.view_is) i) told)

pub returns-clause-leaves : goal.returns-clause-leaves
returns-clause-leaves c =
    subst (λ s. OnErr c.admit_on_ip.result (IsUnchanged s (stocked c.self.inside.tree c.admit_on_ip.new.layout c.admit_on_ip.new.frame))) c.self.view_is
    (on_err c.admit_on_ip.result (λ all. all c.self.inside.tree) c.admit_on_ip.ensures.err)
