use Rattle.std.proofs.Common.{◌∷◌, ap, ◌∙◌}
use Rattle.session_script.specs.Readings.{pieces_left}
use Rattle.session_script.proofs.Arguments.{too_many}
use Rattle.session_script.proofs.words.read_arguments.Goals as goal

pub returns-in-Some-left-3 : goal.returns-in-Some-left-3
returns-in-Some-left-3 c = λ verb.
    too_many verb (pieces_left 32 c.args.left) c.cut.result.0.now c.cut-2.result.0.now c.cut-3.result.0.now c.in-Some-left-3.field-0
    (ap (pieces_left 32) c.in-Some.is ∙ c.cut.ensures.pieces ∙ ap (λ words. c.cut.result.0.now ∷ words) (
    ap (pieces_left 32) c.in-Some-left.is ∙ c.cut-2.ensures.pieces ∙ ap (λ words. c.cut-2.result.0.now ∷ words) (
    ap (pieces_left 32) c.in-Some-left-2.is ∙ c.cut-3.ensures.pieces ∙ ap (λ words. c.cut-3.result.0.now ∷ words) (ap (pieces_left 32) c.in-Some-left-3.is))))
