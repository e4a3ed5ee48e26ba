use Rattle.std.proofs.Common.{sym, subst, length, ◌∙◌}
use Rattle.space_laws.specs.Standing.{rules}
use Rattle.held_volume.specs.Stocks.{IsStock, stocked}
use Rattle.held_volume.proofs.stocks.Stock.most_ops.Goals as goal
use Rattle.held_volume.proofs.Syncing.{block_is, brings}

pub returns : goal.returns
returns c tape g on st i =
    let j = subst (λ s. IsStock tape g on st s) (sym c.self.view_is) i in
    brings (rules g) on st.space (length c.args.bytes.now) c.max.result c.most_ops.result
    (block_is tape g on st (stocked c.self.inside.tree c.self.inside.layout c.self.inside.frame) j c.count-count.ensures.good.some_block ∙ sym c.max.ensures)
    c.most_ops.ensures
