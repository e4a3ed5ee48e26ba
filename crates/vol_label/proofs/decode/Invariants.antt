use Rattle.std.proofs.Common.{◌≡◌, ℕ, ◌<◌, true, get_or}
use Rattle.vol_label.specs.Table.{may_stand}
use Rattle.vol_label.proofs.decode.Given as goal

abbrev pub invariant-loop-at : goal.invariant-loop-at
invariant-loop-at l = (k : ℕ) → k < l.at → may_stand k (get_or l.bytes k 0) ≡ true
