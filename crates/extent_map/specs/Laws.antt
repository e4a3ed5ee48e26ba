-- What extents mean: the calls change the bytes of a file as writes, truncations and reads of a plain file do.
use Rattle.std.specs.Prelude.{◌≡◌, ℕ, ◌+◌, ◌-◌, ◌≤◌, List, replicate, Some, slice_get}
use Rattle.std.specs.List.{flat_map, All}
use Rattle.tape_types.specs.declared.cartridges.Cartridge.{Cartridge}
use Rattle.tape_types.specs.declared.cartridges.Extent.{Extent}
use Rattle.tape_types.specs.declared.cartridges.Item.TheVariants.{Block}
use Rattle.tape_types.specs.declared.cartridges.Part.{Part}
use Rattle.tape_types.specs.Cartridges.{items_of}
use Rattle.plain_tree.specs.Cells as plain
use Rattle.extent_map.specs.Laid.{Laid, IsLaid, overlaid, resized, taken_out, put_among}
use Rattle.extent_map.specs.Cells.{Tape, tape_of, cells_of, file_cells}
use Rattle.extent_map.specs.Pieces.{planned, read_piece, IsInOneBlock}

-- an overlay writes the new extent's bytes into the file, whatever stands on tape
abbrev pub OverlaysWrite : Type 0
OverlaysWrite = (tape : Tape) (f : Laid) (new : Extent) → IsLaid f
    → file_cells tape (overlaid f new) ≡ plain.written (file_cells tape f) new.offset (cells_of tape f.block_size new)

-- a new length truncates the file
abbrev pub LengthsTruncate : Type 0
LengthsTruncate = (tape : Tape) (f : Laid) (length : ℕ) → IsLaid f
    → file_cells tape (resized f length) ≡ plain.resized (file_cells tape f) length

-- what was cut off never comes back, whatever stands on tape: past the shorter length the bytes are zeros when the file
-- grows again, by a length or by an overlay further on
pub record OldBytesStayAway : Type 0 where
  pub longer : (tape : Tape) (f : Laid) (short long : ℕ) → short ≤ long
      → plain.range_of (file_cells tape (resized (resized f short) long)) short (long - short)
      ≡ replicate (long - short) (Some 0)
  pub further : (tape : Tape) (f : Laid) (short : ℕ) (new : Extent) → short ≤ new.offset
      → plain.range_of (file_cells tape (overlaid (resized f short) new)) short (new.offset - short)
      ≡ replicate (new.offset - short) (Some 0)

-- the pieces of a range read the bytes of the range; each has a byte or more, and lies within a block
pub record PlansRead : Type 0 where
  pub read : (tape : Tape) (f : Laid) (offset count : ℕ) → IsLaid f → offset + count ≤ f.length
      → flat_map (read_piece tape) (planned f offset count) ≡ plain.range_of (file_cells tape f) offset count
  pub in_one_block : (f : Laid) (offset count : ℕ) → IsLaid f → All (IsInOneBlock f.block_size) (planned f offset count)

-- an overlay takes its range out of each extent and puts the new one among what is left, by its offset
abbrev pub OverlaysTakeOut : Type 0
OverlaysTakeOut = (f : Laid) (new : Extent)
    → (overlaid f new).extents ≡ put_among new (taken_out f.block_size new.offset (new.offset + new.count) f.extents)

-- a block stands at a position of a partition, and has this byte at this place
pub record HasByte (c : Cartridge) (part : Part) (pos byte value : ℕ) : Type 0 where
  pub bytes : List ℕ
  pub block : slice_get (items_of part c) pos ≡ Some (Block bytes)
  pub there : slice_get bytes byte ≡ Some value

-- what stands on a cartridge is the bytes of its blocks, and every other byte is lost
pub record BlocksHaveTheBytes : Type 0 where
  pub found : (c : Cartridge) (part : Part) (pos byte value : ℕ) → tape_of c part pos byte ≡ Some value
      → HasByte c part pos byte value
  pub only : (c : Cartridge) (part : Part) (pos byte value : ℕ) → HasByte c part pos byte value
      → tape_of c part pos byte ≡ Some value
