-- A cartridge has a byte exactly where a block has it.
use Rattle.std.proofs.Common.{◌≡◌, ℕ, Option, Some, None, ap, ◌∙◌, refl}
use Rattle.std.specs.Prelude.{slice_get}
use Rattle.tape_types.specs.declared.cartridges.Cartridge.{Cartridge}
use Rattle.tape_types.specs.declared.cartridges.Item.{Item}
use Rattle.tape_types.specs.declared.cartridges.Item.TheVariants.{Block, Mark, Torn}
use Rattle.tape_types.specs.declared.cartridges.Part.{Part}
use Rattle.tape_types.specs.Cartridges.{items_of}
use Rattle.extent_map.specs.Cells.{byte_in}
use Rattle.extent_map.specs.Laws.{HasByte, BlocksHaveTheBytes}

has_byte : (c : Cartridge) (part : Part) (pos byte value : ℕ) (item : Option Item) → slice_get (items_of part c) pos ≡ item → byte_in item byte ≡ Some value
    → HasByte c part pos byte value
has_byte c part pos byte value (Some (Block bytes)) block there = record { bytes = bytes; block = block; there = there }
has_byte c part pos byte value (Some Mark) block there = absurd (let bad : None ≡ Some value = there in cc)
has_byte c part pos byte value (Some Torn) block there = absurd (let bad : None ≡ Some value = there in cc)
has_byte c part pos byte value None block there = absurd (let bad : None ≡ Some value = there in cc)

-- what stands on a cartridge is the bytes of its blocks
pub blocks_have_the_bytes : BlocksHaveTheBytes
blocks_have_the_bytes = record {
  found = λ c part pos byte value there. has_byte c part pos byte value (slice_get (items_of part c) pos) refl there;
  only = λ c part pos byte value has. ap (λ item. byte_in item byte) has.block ∙ has.there;
}
