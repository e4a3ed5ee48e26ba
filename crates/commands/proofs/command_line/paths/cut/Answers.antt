use Rattle.std.proofs.Common.{◌+◌, ◌∷◌, eqb, take, arith, sym, ap, ◌∙◌}
use Rattle.std.specs.List.{slice_split}
use Rattle.std.proofs.lemmas.List.{take_rest}
use Rattle.session_script.proofs.Pieces.{cut_at, cut_nowhere}
use Rattle.commands.proofs.command_line.paths.cut.Goals as goal

pub returns-in-Some-clause-pieces : goal.returns-in-Some-clause-pieces
returns-in-Some-clause-pieces c =
    let text = c.args.text.now in
    let at = c.in-Some.at in
    cut_at (λ b. eqb b c.args.byte) text at c.in-Some.ensures.0.high (λ i lt here. c.in-Some.ensures.0.before i (omega arith) lt here) c.in-Some.ensures.1
    ∙ ap (λ rest. take at text ∷ slice_split (λ b. eqb b c.args.byte) rest) (sym (take_rest text (at + 1)))

pub returns-in-None-clause-pieces : goal.returns-in-None-clause-pieces
returns-in-None-clause-pieces c = cut_nowhere (λ b. eqb b c.args.byte) c.args.text.now (λ i lt here. c.in-None.ensures i (omega arith) lt here)
