use Rattle.std.proofs.Common.{◌+◌, ◌-◌, length}
use Rattle.index_read.specs.Drafts.{state_of}
use Rattle.index_read.specs.Walks.{Kept}
use Rattle.index_read.proofs.walking.front_behind.Given as goal

abbrev pub invariant-loop-alloc : goal.invariant-loop-alloc
invariant-loop-alloc l = Kept l.text l.inside l.at l.top l.outer.items (state_of l.draft)

abbrev pub decreases-loop-alloc : goal.decreases-loop-alloc
decreases-loop-alloc l = length l.text + 1 - l.at
