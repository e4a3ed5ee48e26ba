-- What an op does to a cartridge, and what a crash may leave within it.
use Rattle.std.specs.Prelude.{◌≡◌, ◌≤◌, length}
use Rattle.tape_types.specs.declared.cartridges.Cartridge.{Cartridge}
use Rattle.tape_types.specs.declared.cartridges.Item.TheVariants.{Block, Mark}
use Rattle.tape_types.specs.Cartridges.{items_of}
use Rattle.tape_drive.specs.Commands.{IsBroken, IsWritten}
use Rattle.tape_drive.specs.Crashes.{WithinFlush, WithinWrite}
use Rattle.tape_layout.specs.declared.ops.Op.{Op}
use Rattle.tape_layout.specs.declared.ops.Op.TheVariants as ops

-- it is done
abbrev pub IsDone : Op → (old new : Cartridge) → Type 0
IsDone (ops.Put place bytes) old new = IsWritten place.part place.pos (Block bytes) old new
IsDone (ops.Mark place) old new = IsWritten place.part place.pos Mark old new
IsDone (ops.Flush place) old new = new ≡ old

-- it failed
abbrev pub IsFailed : Op → (old new : Cartridge) → Type 0
IsFailed (ops.Put place bytes) old new = IsBroken place.part place.pos old new
IsFailed (ops.Mark place) old new = IsBroken place.part place.pos old new
IsFailed (ops.Flush place) old new = new ≡ old

-- within it, or directly behind it: what a crash may leave, from what it could leave before
abbrev pub Within : Op → (held before image : Cartridge) → Type 0
Within (ops.Put place bytes) held before image = WithinWrite place.part place.pos (Block bytes) held before image
Within (ops.Mark place) held before image = WithinWrite place.part place.pos Mark held before image
Within (ops.Flush place) held before image = WithinFlush held before image

-- its position is at most one past the last item
abbrev pub IsReached : Op → Cartridge → Type 0
IsReached (ops.Put place bytes) c = place.pos ≤ length (items_of place.part c)
IsReached (ops.Mark place) c = place.pos ≤ length (items_of place.part c)
IsReached (ops.Flush place) c = Unit {0}
