-- Which of the worked caches may be.
use Rattle.std.proofs.Common.{◌≡◌, ◌==◌, ℕ, zero, suc, ◌+◌, ◌<◌, false, [], ◌∷◌, codes, map, true≢false, arith}
use Rattle.std.specs.List.{IsDistinct, range_with_len}
use Rattle.std.specs.Map.{keys_of}
use Rattle.std.proofs.lemmas.Bool.Decides.{nat_tests}
use Rattle.tape_types.specs.Cartridges.{same_place}
use Rattle.block_cache.specs.Kept.{AreKept}
use Rattle.block_cache.specs.Worked.{dp, full, hello, one}
use Rattle.block_cache.proofs.KeptLemmas.{NoneIs}

-- of one place there is one block
pub twice_isnt : ¬ AreKept (hello ∷ one 3 ∷ (dp 7, codes "world") ∷ [])
unfolding IsDistinct
twice_isnt kept = true≢false kept.once.0.1.0

-- positions that follow one another differ
later_apart : (pos from count : ℕ) → pos < from → NoneIs (dp pos) (keys_of (map one (range_with_len from count)))
later_apart pos from zero before = tt
later_apart pos from (suc count) before =
    let apart : (pos == from) ≡ false = grind (arith, nat_tests, before) in
    (apart, later_apart pos (from + 1) count (omega (arith, before)))

run_distinct : (from count : ℕ) → IsDistinct same_place (keys_of (map one (range_with_len from count)))
unfolding IsDistinct
run_distinct from zero = tt
run_distinct from (suc count) = (later_apart from (from + 1) count (omega arith), run_distinct (from + 1) count)

-- the worked cache that is full is one that may be
pub full_is : AreKept full
full_is = record { once = run_distinct 0 64; few = omega arith }
