use Rattle.std.proofs.Common.{ap, ap₂, ◌∙◌}
use Rattle.std.proofs.lemmas.Result.{IfOk-weaker}
use Rattle.clap.specs.Simple.{with_rule}
use Rattle.commands.specs.CommandLine.Volumes.{with_policy, with_sizes, with_volume}
use Rattle.commands.proofs.command_line.forms.format_command.Goals as goal

pub returns : goal.returns
returns c =
    IfOk-weaker c.arg.result _ _ (λ d h. h.shape c.option.ensures.global
    ∙ ap₂ with_rule (c.in_ok-command-3.ensures ∙ ap with_policy (c.in_ok-command-2.ensures ∙ ap with_sizes (c.in_ok-command.ensures ∙ ap with_volume c.bare_command.ensures)))
    c.option.ensures.rule) c.arg.ensures
