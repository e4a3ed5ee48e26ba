use Rattle.std.proofs.Common.{length}
use Rattle.volume_core.specs.Commands.{DoesOps}
use Rattle.volume_core.specs.Doing.{CanDoAll}
use Rattle.volume_core.specs.May.{MayDoAll}
use Rattle.volume_core.proofs.commands.do_ops.Given as goal

abbrev pub invariant-loop-head : goal.invariant-loop-head
invariant-loop-head g l =
    DoesOps g.D.Drive l.fn.stock.layout.ops l.fn.head.drive l.stock.layout.ops l.head.drive
    × CanDoAll g.D.Drive l.stock.layout.ops l.head.drive
    × MayDoAll g.D.Drive l.stock.layout.ops l.head.drive

abbrev pub decreases-loop-head : goal.decreases-loop-head
decreases-loop-head g l = length l.stock.layout.ops
