use Rattle.std.proofs.Common.{◌≡◌, ◌∙◌, List, ℕ, drop, ap}
use Rattle.std.proofs.lemmas.Result.{IfOk-weaker}
use Rattle.generation_view.specs.ViewCommands.Texts.{answer_line}
use Rattle.generation_view.proofs.ViewCommands.Lines.{line_is}
use Rattle.generation_view.proofs.view_commands.answers.answer_line.Goals as goal

pub returns : goal.returns
returns c =
    IfOk-weaker c.behind.result (λ (text : List ℕ). text ≡ drop 6 c.as_slice.result.now) (λ (text : List ℕ). text ≡ answer_line c.args.answer)
    (λ text is. is ∙ ap (drop 6) (c.as_slice.ensures ∙ c.in_ok-line.ensures) ∙ line_is c.args.answer c.in_ok-log.log c.in_ok-log.ensures)
    c.behind.ensures
