use Rattle.std.proofs.Common.{◌≡◌, ◌≤◌, ◌-◌, ◌^◌, min, max, take, length}
use Rattle.std.specs.Prelude.{reverse}
use Rattle.byte_disk.specs.Record.{pending}
use Rattle.byte_disk.specs.Images.{reach}
use Rattle.byte_disk.proofs.walks.reached.Given as goal

abbrev pub invariant-loop-left : goal.invariant-loop-left
invariant-loop-left l = record {
  in_range : l.left ≤ length l.acts;
  small : l.most ≤ 2 ^ 64 - 1;
  same : min (max l.most (reach (pending l.file (reverse (take l.left l.acts))))) (2 ^ 64 - 1) ≡ min (reach (pending l.file (reverse l.acts))) (2 ^ 64 - 1);
}

abbrev pub decreases-loop-left : goal.decreases-loop-left
decreases-loop-left l = l.left
