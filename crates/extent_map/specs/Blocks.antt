-- Which blocks the bytes of a file stand in.
use Rattle.std.specs.Prelude.{◌≡◌, ◌⊎◌, ℕ, ◌+◌, ◌/◌, ◌<◌, List, [], ◌∷◌}
use Rattle.tape_types.specs.declared.cartridges.Extent.{Extent}
use Rattle.tape_types.specs.declared.cartridges.Part.{Part}
use Rattle.extent_map.specs.Laid.{Laid, IsLaid, overlaid, resized}
use Rattle.extent_map.specs.Cells.{Tape, file_cells}

-- a set of blocks, each by its partition and its position there
abbrev pub Blocks : Type 1
Blocks = Part → ℕ → Type 0

-- a byte of the extent stands in the block at this position of a partition
pub record StandsIn (block_size : ℕ) (e : Extent) (part : Part) (pos : ℕ) : Type 0 where
  pub byte : ℕ
  pub within : byte < e.count
  pub on : e.part ≡ part
  pub here : e.block + (e.byte + byte) / block_size ≡ pos

-- a byte of some extent does
abbrev pub SomeStandsIn : ℕ → List Extent → Part → ℕ → Type 0
SomeStandsIn block_size [] part pos = ⊥
SomeStandsIn block_size (e ∷ es) part pos = StandsIn block_size e part pos ⊎ SomeStandsIn block_size es part pos

-- a byte of the file does
abbrev pub FileStandsIn : Laid → Part → ℕ → Type 0
FileStandsIn f part pos = SomeStandsIn f.block_size f.extents part pos

-- both tapes have the same bytes in each of these blocks
abbrev pub AreAlikeIn : Blocks → Tape → Tape → Type 0
AreAlikeIn blocks one other = (part : Part) (pos byte : ℕ) → blocks part pos → one part pos byte ≡ other part pos byte

-- two tapes that have the same bytes in the blocks of a file have the same file
abbrev pub BlocksMakeTheFile : Type 0
BlocksMakeTheFile = (one other : Tape) (f : Laid) → AreAlikeIn (FileStandsIn f) one other
    → file_cells one f ≡ file_cells other f

-- an overlay adds the blocks of the new extent alone, and a new length adds none
pub record NoOtherBlocks : Type 0 where
  pub overlays : (f : Laid) (new : Extent) (part : Part) (pos : ℕ) → IsLaid f
      → FileStandsIn (overlaid f new) part pos → FileStandsIn f part pos ⊎ StandsIn f.block_size new part pos
  pub lengths : (f : Laid) (length : ℕ) (part : Part) (pos : ℕ) → FileStandsIn (resized f length) part pos
      → FileStandsIn f part pos
