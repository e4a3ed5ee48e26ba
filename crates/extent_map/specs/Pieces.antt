-- The pieces in which a range of a file is read.
use Rattle.std.specs.Prelude.{◌≡◌, ℕ, ◌+◌, ◌-◌, ◌*◌, ◌==◌, ◌≤◌, min, Bool, List, [], ◌∷◌, ◌++◌, map, replicate, Option}
use Rattle.std.specs.Prelude.{Some, is_some, unwrap_or, slice_get, if◌then◌else◌}
use Rattle.std.specs.Int.{div_ceil}
use Rattle.std.specs.List.{range_with_len}
use Rattle.tape_types.specs.declared.cartridges.Extent.{Extent}
use Rattle.extent_map.specs.declared.pieces.Piece.{Piece}
use Rattle.extent_map.specs.declared.pieces.Piece.TheVariants.{Zeros, Stored}
use Rattle.plain_tree.specs.Cells.{Cell}
use Rattle.extent_map.specs.Laid.{Laid, cut, left_from}
use Rattle.extent_map.specs.Cells.{Tape}

-- one piece of n zeros, or none
abbrev pub zeros : ℕ → List Piece
zeros n = if n == 0 then [] else Zeros n ∷ []

-- what of an extent lies in its k-th block, counted from 0
abbrev pub piece_in : ℕ → Extent → ℕ → Piece
piece_in block_size e k =
    Stored (record { part = e.part; pos = e.block + k }) (e.byte - k * block_size)
    (min block_size (e.byte + e.count - k * block_size) - (e.byte - k * block_size))

-- an extent, cut at the ends of blocks
abbrev pub pieces_of : ℕ → Extent → List Piece
pieces_of block_size e = map (piece_in block_size e) (range_with_len 0 (div_ceil (e.byte + e.count) block_size))

-- the extents from a byte of the file up to another, with zeros in the gaps
abbrev pub with_gaps : ℕ → ℕ → ℕ → List Extent → List Piece
with_gaps block_size from end [] = zeros (end - from)
with_gaps block_size from end (e ∷ es) = zeros (e.offset - from) ++ pieces_of block_size e
    ++ with_gaps block_size (e.offset + e.count) end es

-- what lies in a range of the file, piece by piece
abbrev pub planned : Laid → ℕ → ℕ → List Piece
planned f offset count =
    with_gaps f.block_size offset (offset + count) (left_from f.block_size offset (cut (offset + count) f.extents))

-- the cells that a piece reads
abbrev pub read_piece : Tape → Piece → List Cell
read_piece tape (Zeros count) = replicate count (Some 0)
read_piece tape (Stored place byte count) = map (λ i. tape place.part place.pos (byte + i)) (range_with_len 0 count)

-- the block at the piece's place has these bytes, or there is no block, and these are none
abbrev pub Shows : Tape → List ℕ → Piece → Type 0
Shows tape block (Zeros count) = Unit {0}
Shows tape block (Stored place byte count) = (i : ℕ) → tape place.part place.pos i ≡ slice_get block i

-- the bytes were appended where none is lost, and else nothing
abbrev pub IsTaken : List ℕ → List ℕ → Bool → Option (List ℕ) → Type 0
IsTaken old new whole bytes = (whole ≡ is_some bytes) × (new ≡ old ++ unwrap_or bytes [])

-- the piece has a byte or more, and one on tape lies within a block
abbrev pub IsInOneBlock : ℕ → Piece → Type 0
IsInOneBlock block_size (Zeros count) = 1 ≤ count
IsInOneBlock block_size (Stored place byte count) = (1 ≤ count) × (byte + count ≤ block_size)
