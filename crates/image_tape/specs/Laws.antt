-- What is true of every tape.
use Rattle.std.specs.Prelude.{ℕ, ◌-◌, ◌^◌, ◌<◌, ◌≤◌, ◌≡◌, Some}
use Rattle.tape_types.specs.declared.cartridges.Cartridge.{Cartridge}
use Rattle.byte_disk.specs.Files.{Files}
use Rattle.byte_disk.specs.declared.disk.ByteDisk.{Ghosts}
use Rattle.image_format.specs.Images.{Opens}
use Rattle.image_tape.specs.Tape.{LeavesOf, LeftSince, View}

-- Each disk that may have been left since a number that was reached when the tape was opened, or since a later one,
-- opens, as a cartridge that may have been left since then; and each that may be left now as one that may be left now.
pub record ImagesOpen {D : Type 0} (disk : Ghosts D) (v : View D) : Type 0 where
  pub reached : v.opened ≤ disk.commands v.slots.disk
  pub since : (d : Files) → disk.held v.slots.disk ≡ Some d → (t : ℕ) → v.opened ≤ t → v.opened < 2 ^ 64 - 1
      → (image : Files)
      → disk.left_since v.slots.disk t image
      → (c : Cartridge) × Opens v.room.limits image c × LeftSince disk v t c
  pub now : (d : Files) → disk.held v.slots.disk ≡ Some d → (image : Files) → disk.leaves v.slots.disk image
      → (c : Cartridge) × Opens v.room.limits image c × LeavesOf disk v c
