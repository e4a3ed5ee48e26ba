use Rattle.std.proofs.Common.{ℕ, ◌<◌, ◌≢◌, get_or}
use Rattle.volume_scan.specs.declared.content.Construct.{Construct}
use Rattle.mount_recover.proofs.pointers.has_first.Given as goal

abbrev pub invariant-loop-place : goal.invariant-loop-place
invariant-loop-place l = (k : ℕ) (d : Construct) → k < l.place-index → (get_or l.places k d).first ≢ l.block
