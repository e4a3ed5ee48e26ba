-- Blocks by hand, on which the definitions are tried.
use Rattle.std.specs.Prelude.{ℕ, List, [], ◌∷◌, map, codes}
use Rattle.std.specs.List.{range_with_len}
use Rattle.tape_types.specs.declared.cartridges.Part.TheVariants.{Dp, Ip}
use Rattle.tape_types.specs.declared.cartridges.Place.{Place}
use Rattle.block_cache.specs.Kept.{Kept}

abbrev pub dp : ℕ → Place
dp pos = record { part = Dp; pos = pos }

abbrev pub ip : ℕ → Place
ip pos = record { part = Ip; pos = pos }

-- the block `hello` at position 7 of the data partition
abbrev pub hello : Kept
hello = (dp 7, codes "hello")

abbrev pub one : ℕ → Kept
one pos = (dp pos, pos ∷ [])

-- as many blocks as may be kept, that at position 0 used last
abbrev pub full : List Kept
full = map one (range_with_len 0 64)

-- the same number, that at position 63 used last
abbrev pub full_after_63 : List Kept
full_after_63 = one 63 ∷ map one (range_with_len 0 63)

-- with the block at 100 read then: that at 62 has made room
abbrev pub full_with_100 : List Kept
full_with_100 = one 100 ∷ one 63 ∷ map one (range_with_len 0 62)
