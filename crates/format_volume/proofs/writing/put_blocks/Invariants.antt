use Rattle.std.proofs.Common.{◌-◌}
use Rattle.format_volume.proofs.WriteLemmas.{Putting}
use Rattle.format_volume.proofs.writing.put_blocks.Given as goal

abbrev pub invariant-loop-done : goal.invariant-loop-done
invariant-loop-done g l = Putting g.D.Drive l.block l.doc l.done l.fn.drive l.drive

abbrev pub decreases-loop-done : goal.decreases-loop-done
decreases-loop-done g l = l.count - l.done
