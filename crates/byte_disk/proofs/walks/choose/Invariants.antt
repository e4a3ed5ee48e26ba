use Rattle.std.proofs.Common.{◌≡◌, ◌≤◌, take, length}
use Rattle.std.specs.Prelude.{reverse}
use Rattle.byte_disk.specs.Record.{pending}
use Rattle.byte_disk.specs.Images.{chosen}
use Rattle.byte_disk.proofs.walks.choose.Given as goal

abbrev pub invariant-loop-left : goal.invariant-loop-left
invariant-loop-left l = record {
  in_range : l.left ≤ length l.acts;
  same : chosen (pending l.file (reverse (take l.left l.acts))) l.choice l.bytes.items ≡ chosen (pending l.file (reverse l.acts)) l.choice l.fn.bytes.items;
}

abbrev pub decreases-loop-left : goal.decreases-loop-left
decreases-loop-left l = l.left
