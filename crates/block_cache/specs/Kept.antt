-- The blocks that were read and are kept, the one that was used last first.
use Rattle.std.specs.Prelude.{ℕ, ◌≤◌, Bool, not, List, ◌∷◌, ◌++◌, Option, filter, fold, length, take}
use Rattle.std.specs.List.{IsDistinct, list_any}
use Rattle.std.specs.Map.{keys_of, lookup}
use Rattle.tape_types.specs.Cartridges.{same_place}
use Rattle.tape_types.specs.declared.cartridges.Place.{Place}

-- a block that is kept: where it stands on tape, and its bytes
abbrev pub Kept : Type 0
Kept = Place × List ℕ

-- so many are kept at most
abbrev pub most : ℕ
most = 64

abbrev pub stands_at : Place → Kept → Bool
stands_at place block = same_place place block.0

-- the block at this place is kept
abbrev pub is_cached : List Kept → Place → Bool
is_cached cached place = list_any (stands_at place) cached

-- the bytes of the block at a place, where it is kept
abbrev pub bytes_at : List Kept → Place → Option (List ℕ)
bytes_at cached place = lookup (same_place place) cached

-- all but the block at a place
abbrev pub others : Place → List Kept → List Kept
others place cached = filter (λ block. not (stands_at place block)) cached

-- the block at a place was used: where it is kept it stands first
abbrev pub used : List Kept → Place → List Kept
used cached place = filter (stands_at place) cached ++ others place cached

-- the blocks at these places were used, one after the other
abbrev pub used_all : List Kept → List Place → List Kept
used_all cached places = fold used cached places

-- A block that was read stands first. Of each place there is one, and the one that was used longest ago makes room.
abbrev pub with_block : Place → List ℕ → List Kept → List Kept
with_block place bytes cached = take most ((place, bytes) ∷ others place cached)

-- of each place there is one block at most, and there are no more than may be kept
pub record AreKept (cached : List Kept) : Type 0 where
  pub once : IsDistinct same_place (keys_of cached)
  pub few : length cached ≤ most
