-- What a call leaves of a drive that only looks at its cartridge.
use Rattle.std.specs.Prelude.{ℕ, ◌≡◌}
use Rattle.tape_drive.specs.Crashes.{OnlyReads}
use Rattle.tape_drive.specs.declared.drive.Drive.{Ghosts}

-- The cartridge reads as before, the limits stay, and the commands, so many at most, only read.
pub record Looks {D : Type 0} (drive : Ghosts D) (most : ℕ) (old new : D) : Type 0 where
  pub held : drive.held new ≡ drive.held old
  pub limits : drive.limits new ≡ drive.limits old
  pub reads : OnlyReads most (drive.commands old) (drive.commands new) (drive.leaves old) (drive.leaves new)
      (drive.left_since old) (drive.left_since new)
