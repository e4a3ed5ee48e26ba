-- What a call leaves of a disk with a value that it only reads.
use Rattle.std.specs.Prelude.{ℕ, ◌≡◌, ◌≤◌}
use Rattle.crash_steps.specs.Crashes.{OnlyReads}
use Rattle.byte_disk.specs.declared.disk.ByteDisk.{Ghosts}
use Rattle.image_slots.specs.State.{IsOver, View}

-- The files and the value read as before, faults are never fewer, and the commands, so many at most, only read.
pub record Looks {B : Type 0} (disk : Ghosts B) (most : ℕ) (old new : View B) : Type 0 where
  pub over : IsOver old new
  pub held : disk.held new.disk ≡ disk.held old.disk
  pub faults : disk.faults old.disk ≤ disk.faults new.disk
  pub reads : OnlyReads most (disk.commands old.disk) (disk.commands new.disk) (disk.leaves old.disk)
      (disk.leaves new.disk) (disk.left_since old.disk) (disk.left_since new.disk)
