use Rattle.std.proofs.Common.{◌∷◌, length}
use Rattle.head_queue.specs.Cuts.{rest_after}
use Rattle.head_queue.specs.Ranks.{rank_of}
use Rattle.head_queue.specs.Kept.{IsWalking}
use Rattle.head_queue.proofs.walks.last_before.Given as goal

abbrev pub invariant-walk : goal.invariant-walk
invariant-walk l = IsWalking l.entries (rank_of l.place l.arrival) l.chain.members l.at l.next

abbrev pub decreases-walk : goal.decreases-walk
decreases-walk l = length (rest_after l.at (0 ∷ l.chain.members))
