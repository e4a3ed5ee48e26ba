use Rattle.std.proofs.Common.{◌≡◌, take}
use Rattle.std.specs.List.{flat_map}
use Rattle.index_model.specs.Canonical.{extent}
use Rattle.index_write.specs.Sizes.{size}
use Rattle.index_write.proofs.lengths.extents_len.Given as goal

abbrev pub invariant-loop-extent : goal.invariant-loop-extent
invariant-loop-extent l = l.sum ≡ size (flat_map extent (take l.extent-index l.extents))
