use Rattle.std.proofs.Common.{◌≡◌, ◌++◌, List, length}
use Rattle.tape_desk.specs.Gathering.{HasGathered}
use Rattle.tape_desk.specs.Passes.{DeskView}
use Rattle.tape_desk.proofs.closing.gather.Given as goal

abbrev pub invariant-loop-next : goal.invariant-loop-next
invariant-loop-next g l = ((tail : List (DeskView g.row.D.Denot g.row.K.Denot)) × (l.passes.items ++ tail ≡ l.fn.passes.items))
    × HasGathered l.lock l.fn.passes.items (length l.passes.items) l.whole

abbrev pub decreases-loop-next : goal.decreases-loop-next
decreases-loop-next g l = length l.passes.items
