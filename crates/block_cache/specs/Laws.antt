-- What is true of the blocks that are kept.
use Rattle.std.specs.Prelude.{◌≡◌, ◌<◌, ◌⊎◌, ◌↔◌, ℕ, false, List, [], length, Contains, Some}
use Rattle.tape_types.specs.Cartridges.{same_place}
use Rattle.tape_types.specs.declared.cartridges.Place.{Place}
use Rattle.block_cache.specs.Kept.{AreKept, Kept, bytes_at, most, used, used_all, with_block}

-- A cache begins empty, and what is true of it stays true: each place has one block at most, and there are no more than
-- may be kept.
pub record CachesStay : Type 0 where
  pub begins : AreKept []
  pub uses : (cached : List Kept) (places : List Place) → AreKept cached → AreKept (used_all cached places)
  pub keeps : (cached : List Kept) (place : Place) (bytes : List ℕ) → AreKept cached
      → AreKept (with_block place bytes cached)

-- A use changes the order alone: neither which blocks are kept, nor how many, nor what is found of each.
pub record UsesReorder : Type 0 where
  pub same : (cached : List Kept) (place : Place) (block : Kept)
      → Contains (used cached place) block ↔ Contains cached block
  pub count : (cached : List Kept) (place : Place) → length (used cached place) ≡ length cached
  pub finds : (cached : List Kept) (place at : Place) → bytes_at (used cached place) at ≡ bytes_at cached at

-- A block that is kept is found with its bytes, no other comes with it, and while there is room none goes.
pub record KeepsFind : Type 0 where
  pub finds : (cached : List Kept) (place : Place) (bytes : List ℕ)
      → bytes_at (with_block place bytes cached) place ≡ Some bytes
  pub only : (cached : List Kept) (place : Place) (bytes : List ℕ) (block : Kept)
      → Contains (with_block place bytes cached) block → (block ≡ (place, bytes)) ⊎ Contains cached block
  pub room : (cached : List Kept) (place at : Place) (bytes : List ℕ) → length cached < most
      → same_place place at ≡ false → bytes_at (with_block place bytes cached) at ≡ bytes_at cached at
