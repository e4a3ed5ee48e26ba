use Rattle.std.proofs.Common.{◌≡◌, ◌-◌, length, vec_capacity}
use Rattle.event_journal.specs.LetGo.{GoBetween}
use Rattle.event_journal.proofs.replies.let_go.Given as goal

abbrev pub invariant-loop-replies : goal.invariant-loop-replies
invariant-loop-replies l = GoBetween l.fn.handed l.fn.front l.at l.fn.replies.items l.replies.items
    × (length l.replies.items ≡ length l.fn.replies.items) × (vec_capacity l.replies ≡ vec_capacity l.fn.replies)

abbrev pub decreases-loop-replies : goal.decreases-loop-replies
decreases-loop-replies l = length l.fn.handed - l.at
