use Rattle.std.proofs.Common.{◌≡◌, sum, take}
use Rattle.index_write.specs.Sizes.{bounded}
use Rattle.index_write.proofs.lengths.total.Given as goal

abbrev pub invariant-loop-count : goal.invariant-loop-count
invariant-loop-count l = l.sum ≡ bounded (sum (take l.count-index l.counts))
