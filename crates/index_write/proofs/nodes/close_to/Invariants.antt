use Rattle.std.proofs.Common.{◌≡◌, ◌<◌, ◌≤◌, ℕ, List, length}
use Rattle.ltfs_documents.specs.DocFields.Written.{Keeps}
use Rattle.index_write.specs.Rests.{Goes, Rests, parent_at}
use Rattle.index_write.proofs.nodes.close_to.Given as goal

abbrev pub invariant-loop-left : goal.invariant-loop-left
invariant-loop-left l =
    ((at : ℕ) (text : List ℕ) → at < length l.nodes → parent_at l.nodes at ≡ l.dir → Rests l.nodes at l.fn.inner text → Goes l.nodes at l.left l.fn.out.items l.out.items text)
    × (l.left.depth ≤ l.fn.inner.depth) × Keeps l.fn.out.items l.out.items

abbrev pub decreases-loop-left : goal.decreases-loop-left
decreases-loop-left l = l.left.depth
