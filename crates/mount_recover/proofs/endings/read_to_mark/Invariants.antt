use Rattle.std.proofs.Common.{◌-◌, ◌≤◌, vec_capacity}
use Rattle.mount_recover.proofs.EndingLemmas.{Going}
use Rattle.mount_recover.proofs.endings.read_to_mark.Given as goal

abbrev pub invariant-loop-pos : goal.invariant-loop-pos
invariant-loop-pos g l =
    (1048576 ≤ vec_capacity l.buffer) × Going g.D.Drive l.fn.drive l.drive l.first l.pos l.positions l.fn.document.items l.document.items l.read

abbrev pub decreases-loop-pos : goal.decreases-loop-pos
decreases-loop-pos g l = l.positions - l.pos
