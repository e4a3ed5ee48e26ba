use Rattle.std.proofs.Common.{◌-◌, ◌≤◌, vec_capacity}
use Rattle.mount_recover.proofs.DocumentLemmas.{Going}
use Rattle.mount_recover.proofs.documents.read_blocks.Given as goal

abbrev pub invariant-loop-done : goal.invariant-loop-done
invariant-loop-done g l = (1048576 ≤ vec_capacity l.buffer) × Going g.D.Drive l.fn.drive l.drive l.fn.document.items l.document.items l.blocks l.done l.read

abbrev pub decreases-loop-done : goal.decreases-loop-done
decreases-loop-done g l = l.blocks - l.done
