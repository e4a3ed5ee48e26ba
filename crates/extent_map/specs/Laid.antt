-- How the bytes of a file lie on tape, and what writes and truncations make of it.
use Rattle.std.specs.Prelude.{ℕ, ◌+◌, ◌-◌, ◌/◌, ◌%◌, ◌^◌, ◌<◌, ◌≤◌, min, max, List, [], ◌∷◌, ◌++◌, ◌==◌, if◌then◌else◌}
use Rattle.std.specs.Prelude.{nat_lt, nat_le}
use Rattle.std.specs.List.{flat_map, filter}
use Rattle.tape_types.specs.Bounds.{longest_file}
use Rattle.tape_types.specs.declared.cartridges.Extent.{Extent}

-- a file: the bytes of a block of its volume, the file's length, and its extents by their offsets
pub record Laid : Type 0 where
  pub block_size : ℕ
  pub length : ℕ
  pub extents : List Extent

-- a file, and how many extents more there is memory for
pub record Room : Type 0 where
  pub laid : Laid
  pub spare : ℕ

-- the extents follow one another from a byte on and end before another, each with a byte or more, and each begins
-- within a block; the positions of their blocks are far from the greatest number
abbrev pub AreLaid : ℕ → ℕ → ℕ → List Extent → Type 0
AreLaid block_size from end [] = from ≤ end
AreLaid block_size from end (e ∷ es) =
    (from ≤ e.offset) × (1 ≤ e.count) × (e.byte < block_size) × (e.block + e.count ≤ 2 ^ 62 + longest_file)
    × AreLaid block_size (e.offset + e.count) end es

-- blocks have bytes, the length is one that a file can have, and the extents lie within it
pub record IsLaid (f : Laid) : Type 0 where
  pub some_block : 1 ≤ f.block_size
  pub can_be : f.length ≤ longest_file
  pub are_laid : AreLaid f.block_size 0 f.length f.extents

-- the extent alone, or none where it has no bytes
abbrev pub unless_empty : Extent → List Extent
unless_empty e = if e.count == 0 then [] else e ∷ []

-- the first n bytes of an extent
abbrev pub front_of : ℕ → Extent → Extent
front_of n e = record e { count = min e.count n }

-- an extent without its first n bytes: it begins within the block where the next byte stands
abbrev pub rest_of : ℕ → ℕ → Extent → Extent
rest_of block_size n e = record {
  offset = e.offset + n;
  part = e.part;
  block = e.block + (e.byte + n) / block_size;
  byte = (e.byte + n) % block_size;
  count = e.count - n;
}

-- what of an extent lies before an offset of the file
abbrev pub before : ℕ → Extent → List Extent
before at e = unless_empty (front_of (at - e.offset) e)

-- what of an extent lies at or past an offset of the file
abbrev pub past : ℕ → ℕ → Extent → List Extent
past block_size at e = unless_empty (rest_of block_size (at - e.offset) e)

-- the extents, cut at an offset
abbrev pub cut : ℕ → List Extent → List Extent
cut at es = flat_map (before at) es

-- the extents without what lies before an offset
abbrev pub left_from : ℕ → ℕ → List Extent → List Extent
left_from block_size at es = flat_map (past block_size at) es

-- a write: what lay before its range, the new extent, and what lay past its range; the length reaches at least to its
-- end
abbrev pub overlaid : Laid → Extent → Laid
overlaid f new = record {
  block_size = f.block_size;
  length = max f.length (new.offset + new.count);
  extents = cut new.offset f.extents ++ new ∷ left_from f.block_size (new.offset + new.count) f.extents;
}

-- a truncation: what lies before the new length
abbrev pub resized : Laid → ℕ → Laid
resized f length = record { block_size = f.block_size; length = length; extents = cut length f.extents }

-- each extent without a range of the file
abbrev pub taken_out : ℕ → ℕ → ℕ → List Extent → List Extent
taken_out block_size from end es = flat_map (λ e. before from e ++ past block_size end e) es

-- a new extent among others, by its offset
abbrev pub put_among : Extent → List Extent → List Extent
put_among new es = filter (λ e. nat_lt e.offset new.offset) es ++ new ∷ filter (λ e. nat_le new.offset e.offset) es
