use Rattle.std.proofs.Common.{ap₂, ◌∙◌}
use Rattle.std.proofs.lemmas.Result.{IfOk-weaker}
use Rattle.clap.specs.Simple.{with_rule}
use Rattle.commands.proofs.command_line.forms.list_command.Goals as goal

pub returns : goal.returns
returns c = IfOk-weaker c.arg.result _ _ (λ d h. h.shape c.flag.ensures.global ∙ ap₂ with_rule c.bare_command.ensures c.flag.ensures.rule) c.arg.ensures
