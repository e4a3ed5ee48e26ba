use Rattle.std.proofs.Common.{◌≡◌, take}
use Rattle.block_cache.specs.Kept.{used_all}
use Rattle.block_cache.proofs.cache.BlockCache.used_all.Given as goal

abbrev pub invariant-loop-place : goal.invariant-loop-place
invariant-loop-place l = l.self ≡ used_all l.fn.self (take l.place-index l.places)
