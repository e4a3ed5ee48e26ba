use Rattle.std.proofs.Common.{ap₂, ◌∙◌}
use Rattle.std.proofs.lemmas.Result.{IfOk-weaker}
use Rattle.clap.specs.Simple.{with_rule}
use Rattle.commands.proofs.command_line.forms.view_command.Goals as goal

pub returns : goal.returns
returns c =
    IfOk-weaker c.arg-3.result _ _ (λ d h. h.shape c.flag.ensures.global
    ∙ ap₂ with_rule (c.in_ok-arg-2.ensures.shape c.option.ensures.global
    ∙ ap₂ with_rule (c.in_ok-arg.ensures.shape c.positional.ensures.global ∙ ap₂ with_rule c.bare_command.ensures c.positional.ensures.rule) c.option.ensures.rule)
    c.flag.ensures.rule) c.arg-3.ensures
