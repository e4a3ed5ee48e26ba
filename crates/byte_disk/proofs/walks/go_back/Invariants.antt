use Rattle.std.proofs.Common.{◌≡◌, ◌≤◌, take, length}
use Rattle.std.specs.Prelude.{reverse}
use Rattle.byte_disk.specs.Record.{pending, AreKept}
use Rattle.byte_disk.specs.Images.{original}
use Rattle.byte_disk.proofs.walks.go_back.Given as goal

-- what is still to be gone back over leads from here to where the whole record leads from the start
abbrev pub invariant-loop-left : goal.invariant-loop-left
invariant-loop-left l = record {
  in_range : l.left ≤ length l.acts;
  kept : AreKept l.bytes.items (pending l.file (reverse (take l.left l.acts)));
  same : original l.bytes.items (pending l.file (reverse (take l.left l.acts))) ≡ original l.fn.bytes.items (pending l.file (reverse l.acts));
}

abbrev pub decreases-loop-left : goal.decreases-loop-left
decreases-loop-left l = l.left
