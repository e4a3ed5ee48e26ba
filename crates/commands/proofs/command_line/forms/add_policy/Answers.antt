use Rattle.std.proofs.Common.{ap₂, refl, ◌∙◌}
use Rattle.std.proofs.lemmas.Result.{IfOk-weaker}
use Rattle.clap.specs.Simple.{with_rule}
use Rattle.commands.proofs.command_line.forms.add_policy.Goals as goal

pub returns : goal.returns
returns c =
    IfOk-weaker c.arg-2.result _ _ (λ d h. h.shape c.option-2.ensures.global
    ∙ ap₂ with_rule (c.in_ok-arg.ensures.shape c.option.ensures.global ∙ ap₂ with_rule refl c.option.ensures.rule) c.option-2.ensures.rule) c.arg-2.ensures
