use Rattle.std.proofs.Common.{IfOk, ap, subst}
use Rattle.held_volume.specs.Reads.{IsReadable}
use Rattle.held_volume.specs.Stocks.{Stocked}
use Rattle.held_volume.proofs.Stands.{not_readable, readable}
use Rattle.held_volume.proofs.stocks.Stock.file_at.Goals as goal

pub returns-clause-found : goal.returns-clause-found
returns-clause-found c =
    subst (λ (s : Stocked). IfOk c.file_at.result (IsReadable s.tree c.args.path.now)) c.self.view_is
    (readable c.self.inside.tree c.args.path.now c.file_at.result c.file_at.ensures)

pub returns-clause-refused : goal.returns-clause-refused
returns-clause-refused c =
    not_readable c.self.inside.tree c.args.self.now c.args.path.now c.file_at.result
    (ap (λ (s : Stocked). s.tree) c.self.view_is) c.file_at.ensures
