use Rattle.std.proofs.Common.{ap, ◌∙◌, ◌++◌, ◌∷◌, []}
use Rattle.session_script.specs.declared.logs.Reply.{Reply}
use Rattle.event_journal.specs.LetGo.{value_in, values}
use Rattle.event_journal.proofs.MovedLemmas.{one_moved}
use Rattle.event_journal.proofs.replies.all_kept.Goals as goal

pub loop-reply-preserved : goal.loop-reply-preserved
loop-reply-preserved c =
    let kept = one_moved _ _ _ _ _ _ _ _ _ (c.loop-reply.invariant.2, c.loop-reply.invariant.3, c.loop-reply.invariant.4)
    (ap values (c.in-Some.ensures {u = tt}).steps.0) (ap value_in c.in-Some-reply.is) (c.push.ensures.items ∙ ap (λ (r : Reply). c.loop-reply.into.items ++ r ∷ []) c.new.ensures) c.push.ensures.capacity in
    (tt, tt, kept.0, kept.1, kept.2)
