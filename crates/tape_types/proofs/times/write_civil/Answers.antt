use Rattle.std.proofs.Common.{◌∙◌, ap}
use Rattle.tape_types.specs.Times.{digits}
use Rattle.tape_types.proofs.TextLemmas.{text_from_bytes}
use Rattle.tape_types.proofs.times.write_civil.Goals as goal

pub returns : goal.returns
returns c =
    text_from_bytes c.decimal.result c.decimal-2.result c.decimal-3.result c.decimal-4.result c.decimal-5.result c.decimal-6.result c.decimal-7.result c.args.civil
    (c.decimal.ensures ∙ ap (digits 4) c.from.ensures)
    (c.decimal-2.ensures ∙ ap (digits 2) c.from-2.ensures)
    (c.decimal-3.ensures ∙ ap (digits 2) c.from-3.ensures)
    (c.decimal-4.ensures ∙ ap (digits 2) c.from-4.ensures)
    (c.decimal-5.ensures ∙ ap (digits 2) c.from-5.ensures)
    (c.decimal-6.ensures ∙ ap (digits 2) c.from-6.ensures)
    c.decimal-7.ensures
