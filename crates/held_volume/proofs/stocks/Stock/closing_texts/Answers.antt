use Rattle.std.proofs.Common.{ℕ, Bool, Vec, Global, sym, subst}
use Rattle.std.specs.Option.{option_map}
use Rattle.std.proofs.lemmas.Result.{IfOk-weaker}
use Rattle.extent_map.specs.Cells.{Tape}
use Rattle.space_laws.specs.Standing.{Given, Standing}
use Rattle.held_volume.specs.Closed.{IsDpDocument, IsIpDocument, closed_dp}
use Rattle.held_volume.specs.Stocks.{IsStock, stocked}
use Rattle.held_volume.specs.declared.closings.ClosingTexts.{ClosingTexts}
use Rattle.held_volume.proofs.stocks.Stock.closing_texts.Goals as goal

pub returns-clause-texts : goal.returns-clause-texts
returns-clause-texts c =
    IfOk-weaker c.closing_texts.result
    (λ (texts : ClosingTexts). (tape : Tape) (g : Given) (on : Bool) (st : Standing)
    → IsStock tape g on st (stocked c.self.inside.tree c.self.inside.layout c.self.inside.frame)
    → IsDpDocument g st c.args.at (option_map (λ (doc : Vec ℕ Global). doc.items) texts.dp) × IsIpDocument g (closed_dp g on st c.args.at) c.args.at (option_map (λ (doc : Vec ℕ Global). doc.items) texts.ip))
    (λ texts. (tape : Tape) (g : Given) (on : Bool) (st : Standing) → IsStock tape g on st c.args.self.now
    → IsDpDocument g st c.args.at (option_map (λ (doc : Vec ℕ Global). doc.items) texts.dp) × IsIpDocument g (closed_dp g on st c.args.at) c.args.at (option_map (λ (doc : Vec ℕ Global). doc.items) texts.ip))
    (λ texts all tape g on st i. all tape g on st (subst (λ s. IsStock tape g on st s) (sym c.self.view_is) i))
    c.closing_texts.ensures.texts
