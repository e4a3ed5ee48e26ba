use Rattle.std.proofs.Common.{◌≡◌, ◌+◌, ◌≤◌, ◌++◌, true, All, Some, is_some, length, map, vec_capacity}
use Rattle.event_journal.specs.LetGo.{values}
use Rattle.event_journal.proofs.replies.all_kept.Given as goal

abbrev pub invariant-loop-reply : goal.invariant-loop-reply
invariant-loop-reply l =
    goal.iterator-loop-reply.can_next l.reply-iterator ×
    goal.iterator-loop-reply.is_finite l.reply-iterator ×
    (map Some l.into.items ++ values l.reply-iterator.rest.items ≡ values l.fn.replies.items) ×
    All (λ r. is_some r ≡ true) (values l.reply-iterator.rest.items) ×
    (length l.into.items + length (values l.reply-iterator.rest.items) ≤ vec_capacity l.into)
