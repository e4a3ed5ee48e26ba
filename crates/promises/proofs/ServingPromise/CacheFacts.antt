-- Kept blocks that may be, and that may not.
use Rattle.std.proofs.Common.{◌≡◌, zero, suc, [], ◌∷◌, arith, sym, true≢false, refl}
use Rattle.std.specs.Prelude.{All, true}
use Rattle.std.specs.List.{IsDistinct, list_any}
use Rattle.head_queue.specs.EventLaws.Rows.{one_sync}
use Rattle.block_cache.specs.Kept.{Kept}
use Rattle.block_cache.specs.Worked.{hello, one}
use Rattle.promises.specs.ServingPromise.Cached.{IsCache, was_read}

-- a block that no event read is not rightly kept
pub never_read_isnt : ¬ IsCache one_sync (hello ∷ one 3 ∷ [])
never_read_isnt c = absurd (true≢false (sym (c.read 1 hello (omega arith))))

-- the block that was read may be kept
one_read : All (λ (block : Kept). list_any (was_read block.0) one_sync ≡ true) (hello ∷ [])
one_read zero d less = refl
one_read (suc k) d less = absurd (omega (arith, less))

-- a block that the run read is rightly kept
pub one_is : IsCache one_sync (hello ∷ [])
unfolding IsDistinct
one_is = record { read = one_read; kept = record { once = (tt, tt); few = omega arith } }
