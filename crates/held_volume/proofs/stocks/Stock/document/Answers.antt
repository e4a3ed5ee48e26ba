use Rattle.std.proofs.Common.{ℕ, Bool, Option, Vec, Global, sym, subst}
use Rattle.std.specs.Option.{option_map}
use Rattle.std.proofs.lemmas.Result.{IfOk-weaker}
use Rattle.extent_map.specs.Cells.{Tape}
use Rattle.space_laws.specs.Standing.{Given, Standing}
use Rattle.held_volume.specs.Stocks.{IsStock, stocked}
use Rattle.held_volume.specs.Syncs.{IsDocument}
use Rattle.held_volume.proofs.stocks.Stock.document.Goals as goal

pub returns-clause-document : goal.returns-clause-document
returns-clause-document c =
    IfOk-weaker c.due_document.result
    (λ (due : Option (Vec ℕ Global)). (tape : Tape) (g : Given) (on : Bool) (st : Standing)
    → IsStock tape g on st (stocked c.self.inside.tree c.self.inside.layout c.self.inside.frame) → IsDocument g st c.args.at (option_map (λ (doc : Vec ℕ Global). doc.items) due))
    (λ due. (tape : Tape) (g : Given) (on : Bool) (st : Standing) → IsStock tape g on st c.args.self.now → IsDocument g st c.args.at (option_map (λ (doc : Vec ℕ Global). doc.items) due))
    (λ due all tape g on st i. all tape g on st (subst (λ s. IsStock tape g on st s) (sym c.self.view_is) i))
    c.due_document.ensures.due
