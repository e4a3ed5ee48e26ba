use Rattle.std.proofs.Common.{◌≡◌, ◌-◌, ◌++◌}
use Rattle.byte_disk.specs.Mixed.{mixed_bytes}
use Rattle.byte_disk.proofs.mixed.mix.Given as goal

abbrev pub invariant-loop-place : goal.invariant-loop-place
invariant-loop-place l = l.bytes.items ++ mixed_bytes l.state l.place (l.size - l.place) l.held l.old ≡ mixed_bytes l.seed 0 l.size l.held l.old
