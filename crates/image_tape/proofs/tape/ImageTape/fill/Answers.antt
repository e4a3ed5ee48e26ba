use Rattle.std.proofs.Common.{rules, ◌≡◌, ◌∙◌, true, ap, sym, refl}
use Rattle.tape_types.specs.declared.cartridges.Item.TheVariants as item
use Rattle.image_format.specs.declared.values.Half.{Half}
use Rattle.image_tape.specs.Halves.{half_of}
use Rattle.image_tape.proofs.Appending.{fills_by}
use Rattle.image_tape.proofs.tape.ImageTape.fill.Goals as goal

pub returns-clause-fills : goal.returns-clause-fills
returns-clause-fills g c =
    fills_by g.B.ByteDisk c.args.part c.put.result c.args.self.now c.put.new.self (c.put.ensures.puts item.Torn tt refl)
    (let torn : c.half_of.result.torn ≡ true = search rules in
    sym (ap (λ (h : Half). h.torn) c.half_of.ensures ∙ ap (λ v. (half_of c.args.part v.reads).torn) c.self.view_is) ∙ torn)
