use Rattle.std.proofs.Common.{◌-◌, ◌+◌, length}
use Rattle.index_read.specs.Drafts.{state_of}
use Rattle.index_read.specs.Walks.{Kept}
use Rattle.index_read.proofs.walking.walk.Given as goal

abbrev pub invariant-loop-at : goal.invariant-loop-at
invariant-loop-at l = Kept l.text l.inside l.at l.top l.outer.items (state_of l.draft)

abbrev pub decreases-loop-at : goal.decreases-loop-at
decreases-loop-at l = length l.text + 1 - l.at
