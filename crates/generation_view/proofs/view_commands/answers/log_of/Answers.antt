use Rattle.std.proofs.Common.{◌++◌, ◌∷◌, [], List, ap, ◌∙◌}
use Rattle.plain_tree.specs.declared.calls.Placed.{Placed}
use Rattle.session_script.specs.declared.logs.Reply.{Reply}
use Rattle.generation_view.proofs.view_commands.answers.log_of.Goals as goal

pub returns : goal.returns
returns c = record {
  placed = c.first_call.result;
  history = c.in_ok-push.ensures.ok ∙ ap (λ (l : List Placed). l ++ c.first_call.result ∷ []) c.new-history.ensures;
  who = c.first_call.ensures.who;
  nth = c.first_call.ensures.nth;
  replied = c.in_ok-push-2.ensures.ok ∙ ap (λ (l : List Reply). l ++ c.here.result ∷ []) c.new-replies.ensures
      ∙ ap (λ (r : Reply). r ∷ []) c.here.ensures;
}
