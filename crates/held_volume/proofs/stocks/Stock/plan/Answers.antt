use Rattle.std.proofs.Common.{Bool, List, sym, subst}
use Rattle.std.proofs.lemmas.Result.{IfOk-weaker}
use Rattle.extent_map.specs.Cells.{Tape}
use Rattle.extent_map.specs.declared.pieces.Piece.{Piece}
use Rattle.plain_tree.specs.Paths.{Path}
use Rattle.tape_layout.specs.Plans.{Plan}
use Rattle.space_laws.specs.Standing.{Given, Standing}
use Rattle.held_volume.specs.declared.volume_sync.frames.Frame.{Frame}
use Rattle.held_volume.specs.Reads.{IsReadPlan, IsReadable}
use Rattle.held_volume.specs.Stocks.{IsStock, Stocked, stocked}
use Rattle.held_volume.proofs.stocks.Stock.plan.Goals as goal

pub returns-clause-reads : goal.returns-clause-reads
returns-clause-reads c =
    IfOk-weaker c.plan.result
    (λ (pieces : List Piece). (path : Path) → IsReadable c.self.inside.tree path c.args.file → (l : Plan) (f : Frame) (tape : Tape) (g : Given) (on : Bool) (st : Standing)
    → IsStock tape g on st (stocked c.self.inside.tree l f) → IsReadPlan tape st c.self.inside.tree path c.args.offset c.args.count pieces)
    (λ pieces. (path : Path) → IsReadable c.args.self.now.tree path c.args.file → (tape : Tape) (g : Given) (on : Bool) (st : Standing) → IsStock tape g on st c.args.self.now
    → IsReadPlan tape st c.args.self.now.tree path c.args.offset c.args.count pieces)
    (λ pieces all path readable tape g on st i. subst (λ (s : Stocked). IsReadPlan tape st s.tree path c.args.offset c.args.count pieces) c.self.view_is
    (all path (subst (λ (s : Stocked). IsReadable s.tree path c.args.file) (sym c.self.view_is) readable) c.self.inside.layout c.self.inside.frame tape g on st
    (subst (λ s. IsStock tape g on st s) (sym c.self.view_is) i)))
    c.plan.ensures.reads
