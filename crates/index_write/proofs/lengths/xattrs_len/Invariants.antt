use Rattle.std.proofs.Common.{◌≡◌, take}
use Rattle.std.specs.List.{flat_map}
use Rattle.index_model.specs.Canonical.{xattr}
use Rattle.index_write.specs.Sizes.{size}
use Rattle.index_write.proofs.lengths.xattrs_len.Given as goal

abbrev pub invariant-loop-xattr : goal.invariant-loop-xattr
invariant-loop-xattr l = l.sum ≡ size (flat_map xattr (take l.xattr-index l.xattrs))
