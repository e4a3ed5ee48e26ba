-- What the bytes of a file are, given what stands on tape.
use Rattle.std.specs.Prelude.{ℕ, ◌+◌, ◌-◌, ◌/◌, ◌%◌, Bool, ◌&&◌, nat_le, nat_lt, List, [], ◌∷◌, map, Option, Some, None}
use Rattle.std.specs.Prelude.{slice_get, if◌then◌else◌}
use Rattle.std.specs.List.{range_with_len}
use Rattle.tape_types.specs.declared.cartridges.Extent.{Extent}
use Rattle.tape_types.specs.declared.cartridges.Part.{Part}
use Rattle.tape_types.specs.declared.cartridges.Item.{Item}
use Rattle.tape_types.specs.declared.cartridges.Item.TheVariants.{Block, Mark, Torn}
use Rattle.tape_types.specs.declared.cartridges.Cartridge.{Cartridge}
use Rattle.tape_types.specs.Cartridges.{items_of}
use Rattle.plain_tree.specs.Cells.{Cell}
use Rattle.extent_map.specs.Laid.{Laid}

-- what stands on tape: the cell at a byte of the item at a position of a partition, which is lost where that item is no
-- block or has no such byte
abbrev pub Tape : Type 0
Tape = Part → ℕ → ℕ → Cell

-- the byte of an item
abbrev pub byte_in : Option Item → ℕ → Cell
byte_in (Some (Block bytes)) byte = slice_get bytes byte
byte_in (Some Mark) byte = None
byte_in (Some Torn) byte = None
byte_in None byte = None

-- what stands on a cartridge
abbrev pub tape_of : Cartridge → Tape
tape_of c part pos byte = byte_in (slice_get (items_of part c) pos) byte

-- the byte of an extent with this number
abbrev pub cell_of : Tape → ℕ → Extent → ℕ → Cell
cell_of tape block_size e i = tape e.part (e.block + (e.byte + i) / block_size) ((e.byte + i) % block_size)

-- all bytes of an extent
abbrev pub cells_of : Tape → ℕ → Extent → List Cell
cells_of tape block_size e = map (cell_of tape block_size e) (range_with_len 0 e.count)

-- the extent has the byte of the file at an offset
abbrev pub covers : Extent → ℕ → Bool
covers e at = nat_le e.offset at && nat_lt at (e.offset + e.count)

-- the byte of the file at an offset, which is 0 where no extent has it
abbrev pub cell_at : Tape → ℕ → List Extent → ℕ → Cell
cell_at tape block_size [] at = Some 0
cell_at tape block_size (e ∷ es) at =
    if covers e at then cell_of tape block_size e (at - e.offset) else cell_at tape block_size es at

-- all bytes of a file
abbrev pub file_cells : Tape → Laid → List Cell
file_cells tape f = map (cell_at tape f.block_size f.extents) (range_with_len 0 f.length)
