use Rattle.std.proofs.Common.{◌-◌, ◌≤◌, vec_capacity}
use Rattle.volume_scan.proofs.Looping.{Going}
use Rattle.volume_scan.proofs.scanning.read_to_end.Given as goal

abbrev pub invariant-loop-reading : goal.invariant-loop-reading
invariant-loop-reading g l = (1048576 ≤ vec_capacity l.buffer) × Going g.D.Drive l.fn.drive l.drive l.fn.part l.positions l.before l.reading

abbrev pub decreases-loop-reading : goal.decreases-loop-reading
decreases-loop-reading g l = l.positions - l.reading.pos
